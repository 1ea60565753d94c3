-- Behind rows on which a group is not True there are no offers.
use Rattle.std.proofs.Common.{◌≡◌, ℕ, ◌+◌, ◌<◌, List, [], ◌∷◌, ◌++◌, false, refl, sym, ap, ◌∙◌, arith, length, length-append, nat_lt}
use Rattle.std.specs.Prelude.{if◌then◌else◌}
use Rattle.std.specs.List.{flat_map}
use Rattle.std.proofs.lemmas.List.{append-nil}
use Rattle.rv_value.proofs.Tests.{no_way}
use Rattle.rv_value.specs.declared.value.Value.{Value}
use Rattle.rv_value.specs.declared.record.Record.{Record}
use Rattle.rv_restrict.specs.declared.atom.ColRef.{ColRef}
use Rattle.rv_restrict.specs.declared.atom.Atom.{Atom}
use Rattle.rv_restrict.specs.declared.atom.Tri.{Tri}
use Rattle.rv_restrict.specs.declared.atom.Tri.TheVariants.{True, False, Unknown}
use Rattle.rv_restrict.specs.Bind.{rows_reads, taken, truth_over}
use Rattle.rv_restrict.specs.Truth.{greater, is_true}
use Rattle.rv_restrict.proofs.Below.{reads_front, taken_below}
use Rattle.rv_restrict.proofs.Names.{truth_same}
use Rattle.rv_restrict.proofs.Places.{one_place}
use Rattle.rv_catalog.specs.declared.def.Select.{Select}
use Rattle.rv_model.specs.declared.state.Offer.{Offer}
use Rattle.rv_model.specs.Offering.{is_kept, offer_over}
use Rattle.rv_decide.specs.Choosing.{may_go_on, offers_from}

-- OR, where only True counts

pub unknown_or : (t : Tri) → is_true (greater Unknown t) ≡ is_true t
unknown_or True = refl
unknown_or False = refl
unknown_or Unknown = refl

-- The groups of a place read no row behind it.

kept_front : (only : List (List Atom)) (place : ℕ) (rows more : List (List Value)) → place < length rows → is_kept (taken place only) (rows ++ more) ≡ is_kept (taken place only) rows
kept_front only place rows more within =
    ap is_true (truth_same (rows_reads (rows ++ more)) (rows_reads rows) (λ (c : ColRef). nat_lt c.place (length rows)) (reads_front rows more) (taken place only) (taken_below (length rows) place only within))

-- Where a group is not True the restriction is not.
not_kept : (only : List (List Atom)) (place : ℕ) (rows : List (List Value)) → is_kept (taken place only) rows ≡ false → is_kept only rows ≡ false
not_kept only place rows h = by (truth_over only rows) refl
  where
    by : (t : Tri) → truth_over only rows ≡ t → is_true t ≡ false
    by True e = sym (ap is_true (one_place (rows_reads rows) place only e)) ∙ h
    by False e = refl
    by Unknown e = refl

no_offers : (f : Record → List Offer) → ((r : Record) → f r ≡ []) → (rs : List Record) → flat_map f rs ≡ []
no_offers f none [] = refl
no_offers f none (r ∷ rs) = ap (λ os. os ++ flat_map f rs) (none r) ∙ no_offers f none rs

none_behind : (s : Select) (place : ℕ) (lists : List (List Record)) (chosen : List (List Value)) → place < length chosen → is_kept (taken place s.only) chosen ≡ false → offers_from s lists chosen ≡ []
none_behind s place [] chosen within h = ap (λ b. if b then offer_over s.order s.returns chosen ∷ [] else []) (not_kept s.only place chosen h)
none_behind s place (rows ∷ more) chosen within h =
    no_offers (λ (r : Record). offers_from s more (chosen ++ r.values ∷ []))
    (λ (r : Record). none_behind s place more (chosen ++ r.values ∷ []) (longer (length (chosen ++ r.values ∷ [])) (length-append chosen (r.values ∷ []))) (kept_front s.only place chosen (r.values ∷ []) within ∙ h)) rows
  where
    longer : (n : ℕ) → n ≡ length chosen + 1 → place < n
    longer n e = omega (arith, e, within)

-- where a choice may not go on nothing is added
pub none_added : (s : Select) (lists : List (List Record)) (chosen : List (List Value)) (found : List Offer) → may_go_on s.only chosen ≡ false → found ≡ found ++ offers_from s lists chosen
none_added s lists [] found h = no_way h
none_added s lists (row ∷ rows) found h =
    sym (ap (λ os. found ++ os) (none_behind s (length rows) lists (row ∷ rows) (omega arith) h) ∙ append-nil found)
