use Rattle.std.proofs.Common.{◌≡◌, ◌≤◌, length, drop}
use Rattle.std.specs.Str.Lines.{lines}
use Rattle.rv_script.specs.Drafts.{drafted}
use Rattle.rv_script.specs.Script.{sayings_from, script_said}
use Rattle.rv_script.proofs.scripts.read_lines.Given as goal

abbrev pub invariant-lines : goal.invariant-lines
invariant-lines l = record {
  whole : drafted l.draft (sayings_from l.number (drop (length l.yielded) (lines l.text))) ≡ script_said (sayings_from 1 (lines l.text));
  few : l.number ≤ 200001;
}
