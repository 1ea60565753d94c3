use Rattle.std.proofs.Common.{◌≡◌, ◌≤◌, ◌-◌, length, take}
use Rattle.rv_reader.specs.Storing.{AreKeys}
use Rattle.rv_jscan.specs.Pieces.{marks_of}
use Rattle.rv_jscan.proofs.piece.sieve.Given as goal

abbrev pub invariant-entries : goal.invariant-entries
invariant-entries l = record {
  short : length l.entries ≤ 64;
  keys : AreKeys (length l.part.columns) l.entries;
  full : length l.marks ≡ 64;
  here : l.i ≤ length l.entries;
  marks : take l.i l.marks ≡ marks_of l.part (take l.i l.entries);
}

abbrev pub decreases-entries : goal.decreases-entries
decreases-entries l = length l.entries - l.i
