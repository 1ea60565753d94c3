-- A trace, as it is read: word by word.
use Rattle.std.specs.Prelude.{ℕ, List, [], ◌∷◌, ◌++◌, Bool, false, ◌&&◌, ◌==◌, Option, Some, None, bytes_eq, codes, find, if◌then◌else◌}
use Rattle.std.specs.List.{list_all}
use Rattle.rv_judge.specs.declared.events.Strategy.{Strategy}
use Rattle.rv_judge.specs.declared.events.Strategy.TheVariants as strategies
use Rattle.rv_judge.specs.declared.events.Control.{Control}
use Rattle.rv_judge.specs.declared.events.Control.TheVariants as controls
use Rattle.rv_lang.specs.declared.reply.ShownEvent.{ShownEvent}
use Rattle.rv_lang.specs.declared.reply.ShownEvent.TheVariants as events
use Rattle.rv_lang.specs.declared.reply.Shown.{Shown}
use Rattle.rv_judge.specs.Words.{control_word, strategy_word}
use Rattle.rv_model.specs.Transcript.{is_capital, is_name_byte}
use Rattle.rv_text.specs.declared.traces.Tail.{Tail}
use Rattle.rv_text.specs.Values.{number_at}

abbrev pub is_name : List ℕ → Bool
is_name [] = false
is_name (c ∷ cs) = is_capital c && list_all is_name_byte cs

abbrev pub strategies_all : List Strategy
strategies_all =
    strategies.Table ∷ strategies.BackgroundOnly ∷ strategies.FastFirst ∷ strategies.Sorted ∷ strategies.IndexOnly
    ∷ strategies.Union ∷ []

abbrev pub strategy_at : List ℕ → Option Strategy
strategy_at word = find (λ s. bytes_eq (strategy_word s) word) strategies_all

abbrev pub controls_all : List Control
controls_all =
    controls.Building ∷ controls.ForegroundAlone ∷ controls.BackgroundAlone ∷ controls.FinalList ∷ controls.FinalTable
    ∷ controls.Done ∷ []

abbrev pub control_at : List ℕ → Option Control
control_at word = find (λ c. bytes_eq (control_word c) word) controls_all

-- the words at spaces
abbrev pub word_grown : ℕ → List (List ℕ) → List (List ℕ)
word_grown c [] = (c ∷ []) ∷ []
word_grown c (w ∷ ws) = (c ∷ w) ∷ ws

abbrev pub words : List ℕ → List (List ℕ)
words [] = [] ∷ []
words (c ∷ cs) = if c == 32 then [] ∷ words cs else word_grown c (words cs)

abbrev pub words_of : Option (List ℕ) → List (List ℕ)
words_of None = []
words_of (Some text) = words text

-- what is awaited: an event or the counts, or a part of an event that has begun
pub data Awaited : Type 0 where
  Event : Awaited
  Scanned : Awaited
  Listed : Awaited
  Keys : List ℕ → Awaited
  Dropped : Awaited

-- what a word makes of it: another part is awaited, or an event is whole, or the counts follow
pub data Step : Type 0 where
  Awaits : Awaited → Step
  Gives : ShownEvent → Step
  Counts : Step

abbrev pub control_step : Option Control → Option Step
control_step None = None
control_step (Some c) = Some (Gives (events.At c))

abbrev pub event_step : List ℕ → Option Step
event_step w =
    if bytes_eq w (codes "scan") then Some (Awaits Scanned)
    else (if bytes_eq w (codes "list") then Some (Awaits Listed)
    else (if bytes_eq w (codes "drop") then Some (Awaits Dropped)
    else (if bytes_eq w (codes "full") then Some (Gives events.Full)
    else (if bytes_eq w (codes "stop") then Some (Gives events.Stop)
    else (if bytes_eq w (codes "pages") then Some Counts
    else control_step (control_at w))))))

abbrev pub list_step : List ℕ → Option ℕ → Option Step
list_step name None = None
list_step name (Some keys) = Some (Gives (events.List name keys))

abbrev pub step_at : Awaited → List ℕ → Option Step
step_at Event w = event_step w
step_at Scanned w = if is_name w then Some (Gives (events.Scan w)) else None
step_at Listed w = if is_name w then Some (Awaits (Keys w)) else None
step_at (Keys name) w = list_step name (number_at w)
step_at Dropped w = if is_name w then Some (Gives (events.Drop w)) else None

abbrev pub events_before : List ShownEvent → Option Tail → Option Tail
events_before es None = None
events_before es (Some t) =
    Some (record { events = es ++ t.events; pages = t.pages; leaves = t.leaves; fetches = t.fetches })

abbrev pub counted : Option ℕ → Option ℕ → Option ℕ → Option Tail
counted None b c = None
counted (Some pages) None c = None
counted (Some pages) (Some leaves) None = None
counted (Some pages) (Some leaves) (Some fetches) =
    Some (record { events = []; pages = pages; leaves = leaves; fetches = fetches })

-- the counts behind `pages`
abbrev pub counts_at : List (List ℕ) → Option Tail
counts_at (p ∷ l ∷ leaves ∷ f ∷ fetches ∷ []) =
    if bytes_eq l (codes "leaves") && bytes_eq f (codes "fetches")
    then counted (number_at p) (number_at leaves) (number_at fetches) else None
counts_at ws = None

abbrev pub stepped : Option Step → List (List ℕ) → (Awaited → Option Tail) → Option Tail
stepped None ws go = None
stepped (Some (Awaits a)) ws go = go a
stepped (Some (Gives e)) ws go = events_before (e ∷ []) (go Event)
stepped (Some Counts) ws go = counts_at ws

-- what the words tell that follow
abbrev pub told : Awaited → List (List ℕ) → Option Tail
told a [] = None
told a (w ∷ ws) = stepped (step_at a w) ws (λ next. told next ws)

abbrev pub shown_of : Option Strategy → Option Tail → Option Shown
shown_of None tail = None
shown_of (Some s) None = None
shown_of (Some s) (Some t) =
    Some (record { strategy = s; events = t.events; pages = t.pages; leaves = t.leaves; fetches = t.fetches })

abbrev pub trace_told : List (List ℕ) → Option Shown
trace_told [] = None
trace_told (w ∷ ws) = shown_of (strategy_at w) (told Event ws)

-- the trace behind `trace` and a space
abbrev pub trace_at : List ℕ → Option Shown
trace_at text = trace_told (words text)
