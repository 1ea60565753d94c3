use Rattle.std.proofs.Common.{◌≡◌, ◌∙◌, sym, subst, true, List}
use Rattle.std.specs.Cmp.Lexicographic.{pointwise}
use Rattle.std.specs.Ordering.{eq_by_cmp}
use Rattle.rv_value.specs.declared.record.IndexEntry.{IndexEntry}
use Rattle.rv_value.specs.Entries.{entry_cmp}
use Rattle.rv_jscan.proofs.Same.{all_same, itself}
use Rattle.rv_jscan.proofs.piece.same_entries.Goals as goal

pub returns : goal.returns
returns c = (λ t. all_same c.args.a.now c.args.b.now (sym c.eq.ensures ∙ t), λ e. c.eq.ensures ∙ subst (λ (ys : List IndexEntry). pointwise (eq_by_cmp entry_cmp) c.args.a.now ys ≡ true) e (itself c.args.a.now))
