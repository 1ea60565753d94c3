-- What a line says that is read alone, with its number.
use Rattle.std.specs.Prelude.{◌≡◌, ◌==◌, ℕ, List, [], ◌∷◌, Result, Ok, Err, if◌then◌else◌}
use Rattle.std.specs.Str.{IsUtf8, IsValidUpTo}
use Rattle.std.specs.Str.Lines.{lines}
use Rattle.rv_script.specs.declared.scripts.ScriptFault.{ScriptFault}
use Rattle.rv_script.specs.declared.scripts.ScriptFault.TheVariants as faults
use Rattle.rv_script.specs.Script.{Saying, says_at, without_byte_order_mark}

abbrev pub first_of : List (List ℕ) → List ℕ
first_of [] = []
first_of (line ∷ more) = line

-- the first line of a text; nothing where it has none
abbrev pub first_line : List ℕ → List ℕ
first_line text = first_of (lines text)

-- the line of number n behind a byte order mark, which only the first one may have
abbrev pub behind_mark : ℕ → List ℕ → List ℕ
behind_mark n bytes = if n == 1 then without_byte_order_mark bytes else bytes

-- WHAT THE LINE OF NUMBER n SAYS, whose bytes these are, with its end or without.
abbrev pub said_at : ℕ → List ℕ → Result Saying ScriptFault
said_at n bytes = says_at n (first_line (behind_mark n bytes))

-- the bytes say this
pub record LineSays (n : ℕ) (bytes : List ℕ) (saying : Saying) : Type 0 where
  pub utf8 : IsUtf8 bytes
  pub says : said_at n bytes ≡ Ok saying

-- the fault of the line of number n; the bytes that are not UTF-8 are counted from its begin
abbrev pub LineFault : ℕ → List ℕ → ScriptFault → Type 0
LineFault n bytes (faults.NotText offset) = IsValidUpTo bytes offset
LineFault n bytes faults.NoMemory = Unit {0}
LineFault n bytes fault = IsUtf8 bytes × (said_at n bytes ≡ Err fault)
