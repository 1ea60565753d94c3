use Rattle.std.proofs.Common.{◌≡◌, ◌<◌, ◌^◌, ◌∙◌, List, ap, length, rules, subst, sym}
use Rattle.std.proofs.lemmas.List.{length-map}
use Rattle.rv_rows.specs.Changes.{change_at}
use Rattle.rv_rows.specs.declared.changes.Change.{Change}
use Rattle.rv_rows.proofs.Forms.{all_listed, all_mapped}
use Rattle.rv_rows.proofs.changes.Changes.len.Goals as goal

pub returns-then-is_empty-clause-same : goal.returns-then-is_empty-clause-same
returns-then-is_empty-clause-same c =
    let count : c.len.result ≡ length c.self.inside.mapped.entries = search rules in
    count ∙ sym (length-map c.self.inside.mapped.entries change_at) ∙ ap (λ (cs : List Change). length cs) (all_mapped c.self.inside.listed c.self.inside.mapped.entries (sym c.is_empty.ensures ∙ c.if-is_empty.true) ∙ c.self.view_is)

pub returns-then-is_empty-clause-small : goal.returns-then-is_empty-clause-small
returns-then-is_empty-clause-small c =
    let count : c.len.result ≡ length c.self.inside.mapped.entries = search rules in
    subst (λ n. n < 2 ^ 63) (count ∙ sym (length-map c.self.inside.mapped.entries change_at) ∙ ap (λ (cs : List Change). length cs) (all_mapped c.self.inside.listed c.self.inside.mapped.entries (sym c.is_empty.ensures ∙ c.if-is_empty.true) ∙ c.self.view_is)) c.len.ensures.small

pub returns-clause-same : goal.returns-clause-same
returns-clause-same c = c.len-2.ensures.same ∙ ap (λ (cs : List Change). length cs) (all_listed c.self.inside.listed c.self.inside.mapped.entries c.self.invariant (sym c.is_empty.ensures ∙ c.if-is_empty.false) ∙ c.self.view_is)

pub returns-clause-small : goal.returns-clause-small
returns-clause-small c = subst (λ (cs : List Change). length cs < 2 ^ 63) (all_listed c.self.inside.listed c.self.inside.mapped.entries c.self.invariant (sym c.is_empty.ensures ∙ c.if-is_empty.false) ∙ c.self.view_is) c.len-2.ensures.small
