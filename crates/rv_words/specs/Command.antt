-- The program's command as clap has it, and what its matches ask.
use Rattle.std.specs.Prelude.{ℕ, List, [], ◌∷◌, Bool, Option, Some, bytes_eq, codes, false, option_and_then, true, unwrap_or}
use Rattle.std.specs.Option.{option_map_or}
use Rattle.clap.specs.Simple.{App, new_app, new_rule, on_top}
use Rattle.clap.specs.Walk.{Row, Rule, first_of}
use Rattle.clap.specs.declared.builder.action.ArgAction.TheVariants.{SetTrue}
use Rattle.rv_words.specs.declared.choices.Choice.{Choice}
use Rattle.rv_words.specs.declared.choices.Choice.TheVariants.{Threads, Workers, Judge, Steps, Gen, Race}
use Rattle.rv_words.specs.declared.choices.Asked.{Asked}
use Rattle.rv_words.specs.Reading.{value}

-- by which name clap knows an option: the option's name without its two hyphens
abbrev pub id_of : Choice → List ℕ
id_of Threads = codes "threads"
id_of Workers = codes "workers"
id_of Judge = codes "judge"
id_of Steps = codes "steps"
id_of Gen = codes "gen"
id_of Race = codes "race"

-- an option of this name that takes a value, and one that takes none
abbrev pub valued_rule : List ℕ → Rule
valued_rule name = record (new_rule name) { long = Some name }

abbrev pub flag_rule : List ℕ → Rule
flag_rule name = record (valued_rule name) { action = Some SetTrue }

abbrev pub rule_for : Choice → Rule
rule_for Threads = flag_rule (id_of Threads)
rule_for Race = flag_rule (id_of Race)
rule_for option = valued_rule (id_of option)

abbrev pub app : App
app = on_top (λ top. record top {
  no_binary_name = true;
  disable_help_flag = true;
  disable_version_flag = true;
  rules = rule_for Threads ∷ rule_for Workers ∷ rule_for Judge ∷ rule_for Steps ∷ rule_for Gen ∷ rule_for Race ∷ [];
}) (new_app (codes "rvdyn"))

-- the value of an option among matches, if it has one
abbrev pub found_in : List Row → Choice → Option ℕ
found_in rows option = option_and_then (value option) (first_of (id_of option) rows)

-- whether an option that takes no value is among matches
abbrev pub flag_in : List Row → Choice → Bool
flag_in rows option =
    option_map_or (λ (text : List ℕ). bytes_eq text (codes "true")) (first_of (id_of option) rows) false

-- what matches ask
abbrev pub asked_in : List Row → Asked
asked_in rows = record {
  threads = flag_in rows Threads;
  workers = unwrap_or (found_in rows Workers) 2;
  judge = unwrap_or (found_in rows Judge) 0;
  steps = unwrap_or (found_in rows Steps) 1;
  seed = found_in rows Gen;
  race = flag_in rows Race;
}
