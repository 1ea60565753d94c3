-- Words read one after another, as the code reads them. `specs/Words.antt` says which words are accepted.
use Rattle.std.specs.Prelude.{ℕ, ◌+◌, ◌-◌, ◌*◌, ◌&&◌, ◌==◌, Bool, true, false, List, [], ◌∷◌, Option, Some, None, bytes_eq, drop, take, if◌then◌else◌, is_some, length, nat_le, position, option_and_then}
use Rattle.std.specs.Char.{is_ascii_digit}
use Rattle.rv_words.specs.declared.choices.Choice.{Choice}
use Rattle.rv_words.specs.declared.choices.Choice.TheVariants.{Threads, Workers, Judge, Steps, Gen, Race}
use Rattle.rv_words.specs.declared.reading.Sofar.{Sofar}
use Rattle.rv_words.specs.Words.{greatest, is_flag, name_of}

-- ---- a word where an item begins

-- an option alone, whose value, if it takes one, is the next word; an option with its value; or neither
pub data Form : Type 0 where
  Named : Choice → Form
  Joined : Choice → List ℕ → Form
  Other : Form

abbrev pub choice_of : List ℕ → Option Choice
choice_of name =
    if bytes_eq name (name_of Threads) then Some Threads
    else (if bytes_eq name (name_of Workers) then Some Workers
    else (if bytes_eq name (name_of Judge) then Some Judge
    else (if bytes_eq name (name_of Steps) then Some Steps
    else (if bytes_eq name (name_of Gen) then Some Gen
    else (if bytes_eq name (name_of Race) then Some Race
    else None)))))

abbrev pub named : Option Choice → Form
named None = Other
named (Some option) = Named option

abbrev pub joined : Option Choice → List ℕ → Form
joined None digits = Other
joined (Some option) digits = Joined option digits

-- cut at the first `=`, where there is one
abbrev pub form_at : Option ℕ → List ℕ → Form
form_at None word = named (choice_of word)
form_at (Some at) word = joined (choice_of (take at word)) (drop (at + 1) word)

abbrev pub form : List ℕ → Form
form word = form_at (position (λ c. c == 61) word) word

-- ---- a value

-- a number with one digit more, up to the greatest of all values
abbrev pub with_digit : ℕ → ℕ → Option ℕ
with_digit n d = if is_ascii_digit d && nat_le (n * 10 + (d - 48)) 4294967295 then Some (n * 10 + (d - 48)) else None

-- the number that digits write behind those of another
abbrev pub number_from : ℕ → List ℕ → Option ℕ
number_from n [] = Some n
number_from n (d ∷ ds) = option_and_then (λ (more : ℕ). number_from more ds) (with_digit n d)

abbrev pub held_to : ℕ → Option ℕ → Option ℕ
held_to most None = None
held_to most (Some n) = if nat_le n most then Some n else None

abbrev pub value : Choice → List ℕ → Option ℕ
value option digits =
    if nat_le 1 (length digits) && nat_le (length digits) 10 then held_to (greatest option) (number_from 0 digits)
    else None

-- ---- what was read so far

abbrev pub start : Sofar
start =
    record {
      threads = false;
      workers = false;
      judge = false;
      steps = false;
      seed = false;
      race = false;
      waiting = None;
    }

abbrev pub given : Choice → Sofar → Bool
given Threads s = s.threads
given Workers s = s.workers
given Judge s = s.judge
given Steps s = s.steps
given Gen s = s.seed
given Race s = s.race

abbrev pub marked : Sofar → Choice → Sofar
marked s Threads = record s { threads = true }
marked s Workers = record s { workers = true }
marked s Judge = record s { judge = true }
marked s Steps = record s { steps = true }
marked s Gen = record s { seed = true }
marked s Race = record s { race = true }

-- with an option that has what it takes, which was not given yet
abbrev pub with_new : Sofar → Choice → Bool → Option Sofar
with_new s option false = None
with_new s option true = if given option s then None else Some (marked s option)

abbrev pub with_form : Sofar → Form → Option Sofar
with_form s (Named option) =
    if is_flag option then with_new s option true else Some (record s { waiting = Some option })
with_form s (Joined option digits) = if is_flag option then None else with_new s option (is_some (value option digits))
with_form s Other = None

abbrev pub with_word_at : Option Choice → Sofar → List ℕ → Option Sofar
with_word_at None s word = with_form s (form word)
with_word_at (Some option) s word = with_new (record s { waiting = None }) option (is_some (value option word))

-- with the next word
abbrev pub with_word : Sofar → List ℕ → Option Sofar
with_word s word = with_word_at s.waiting s word

-- no value is to come
abbrev pub ended_at : Option Choice → Bool
ended_at None = true
ended_at (Some option) = false

abbrev pub ended : Sofar → Bool
ended s = ended_at s.waiting

abbrev pub fit_more : (Sofar → Bool) → Option Sofar → Bool
fit_more rest None = false
fit_more rest (Some more) = rest more

-- whether words fit behind those that were read
abbrev pub fit_from : Sofar → List (List ℕ) → Bool
fit_from s [] = ended s
fit_from s (w ∷ ws) = fit_more (λ (more : Sofar). fit_from more ws) (with_word s w)
