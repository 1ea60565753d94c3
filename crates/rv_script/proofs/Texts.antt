-- The script of bytes that are UTF-8.
use Rattle.std.proofs.Common.{◌≡◌, ℕ, List, true, length, refl, IsUtf8, arith}
use Rattle.std.specs.Prelude.{◌==◌}
use Rattle.std.specs.Str.Lines.{lines}
use Rattle.std.specs.Str.Lossy.{utf8_valid_len}
use Rattle.std.proofs.lemmas.Str.{utf8_valid_len-IsUtf8}
use Rattle.std.proofs.lemmas.Bool.Decides.{nat_tests}
use Rattle.rv_script.specs.Script.{sayings_from, script_said, without_byte_order_mark, script_of}

pub script_utf8 : (bytes : List ℕ) → IsUtf8 bytes → script_of bytes ≡ script_said (sayings_from 1 (lines (without_byte_order_mark bytes)))
unfolding script_of
script_utf8 bytes u = let e : (utf8_valid_len bytes == length bytes) ≡ true = grind (arith, nat_tests, utf8_valid_len-IsUtf8 bytes u) in rw e refl
