use Rattle.std.proofs.Common.{◌≡◌, ◌∙◌, ap, false, sym, true}
use Rattle.std.proofs.lemmas.Result.{err_from_is_err_and}
use Rattle.rv_union.specs.Unioned.{Unioned}
use Rattle.rv_final.specs.Shell.{scanning}
use Rattle.rv_final.proofs.Givings.{right_of}
use Rattle.rv_union.proofs.Stepped.{gave_piece, gave_wanting, took_wanting}
use Rattle.rv_union.proofs.Takes.{took_parts}
use Rattle.rv_union.proofs.uniting.Union.background_step.Goals as goal

pub unreachable-requires : goal.unreachable-requires
unreachable-requires g c =
    let off = rw c.in-Nothing.is at c.in_ok-piece.ensures.taken in
    let on : scanning c.take_piece.new.self.control ≡ true = ap (λ (x : Unioned). scanning x.control) (took_parts c.args.self.now c.take_piece.new.self c.take_piece.ensures.took.leaves) ∙ ap scanning c.requires.control in
    absurd (let bad : true ≡ false = sym on ∙ off in cc)

pub returns-clause-stepped : goal.returns-clause-stepped
returns-clause-stepped g c =
    let piece = rw c.in-Piece.is at c.in_ok-piece.ensures.taken in
    gave_piece (right_of c.give_piece.ensures.stays) _ _ (g.R.Reader.shown c.args.reader.now) c.args.steps.now c.take_piece.new.steps c.args.self.now c.take_piece.new.self c.give_piece.new.self c.in-Piece.piece c.sieve.result c.in_ok-_given-in-Piece._given c.requires.control c.take_piece.ensures.took piece c.sieve.ensures c.in_ok-_given-in-Piece.ensures.given c.in_ok-_given-in-Piece.ensures.obeys

pub returns-in_err-piece-clause-stepped : goal.returns-in_err-piece-clause-stepped
returns-in_err-piece-clause-stepped g c =
    let p = err_from_is_err_and c.from_residual.result c.from_residual.ensures.1 in
    took_wanting c.from_residual.result p.0 _ _ (g.R.Reader.shown c.args.reader.now) c.args.steps.now c.take_piece.new.steps c.args.self.now c.take_piece.new.self p.1 c.requires.control c.take_piece.ensures.took

pub returns-in_err-_given-in-Piece-clause-stepped : goal.returns-in_err-_given-in-Piece-clause-stepped
returns-in_err-_given-in-Piece-clause-stepped g c =
    let p = err_from_is_err_and c.from_residual-in_err-_given-in-Piece.result c.from_residual-in_err-_given-in-Piece.ensures.1 in
    gave_wanting c.from_residual-in_err-_given-in-Piece.result p.0 (right_of c.give_piece.ensures.stays) _ _ (g.R.Reader.shown c.args.reader.now) c.args.steps.now c.take_piece.new.steps c.args.self.now c.take_piece.new.self c.give_piece.new.self p.1 c.requires.control c.take_piece.ensures.took c.in_err-_given-in-Piece.ensures.err c.in_err-_given-in-Piece.ensures.quiet
