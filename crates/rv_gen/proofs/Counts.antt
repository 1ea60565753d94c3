-- The summary of one entry more.
use Rattle.std.proofs.Common.{◌≡◌, ℕ, ◌+◌, ◌<◌, ◌≤◌, ◌^◌, List, [], ◌∷◌, ◌++◌, refl, sym, ap, ◌∙◌, arith, Bool, true, false, cond, filter, length, take, get_or, length-append}
use Rattle.std.proofs.lemmas.List.{take_more}
use Rattle.rv_lang.specs.declared.reply.Reply.{Reply}
use Rattle.rv_model.specs.declared.entry.Entry.{Entry}
use Rattle.rv_gen.specs.declared.summary.Summary.{Summary}
use Rattle.rv_gen.specs.Summary.{IsSmall, is_commit, is_end, is_refusal, is_row, one_if, replies, summary, with_reply}

replies_more : (such : Reply → Bool) (entries : List Entry) (e : Entry) → replies such (entries ++ e ∷ []) ≡ replies such entries + one_if (such e.reply)
replies_more such [] e = elim (such e.reply) as (λ b. length (cond b (e ∷ []) []) ≡ 0 + one_if b) [ true ↦ refl | false ↦ refl ]
replies_more such (d ∷ ds) e =
    let rest = replies_more such ds e in
    elim (such d.reply) as (λ b. length (cond b (d ∷ filter (λ (x : Entry). such x.reply) (ds ++ e ∷ [])) (filter (λ (x : Entry). such x.reply) (ds ++ e ∷ []))) ≡ length (cond b (d ∷ filter (λ (x : Entry). such x.reply) ds) (filter (λ (x : Entry). such x.reply) ds)) + one_if (such e.reply)) [
      | true ↦ omega (arith, rest)
      | false ↦ rest
    ]

few : (such : Reply → Bool) (entries : List Entry) → replies such entries ≤ length entries
few such [] = omega arith
few such (d ∷ ds) =
    let rest = few such ds in
    elim (such d.reply) as (λ b. length (cond b (d ∷ filter (λ (x : Entry). such x.reply) ds) (filter (λ (x : Entry). such x.reply) ds)) ≤ length (d ∷ ds)) [ true ↦ omega (arith, rest) | false ↦ omega (arith, rest) ]

pub small : (entries : List Entry) → length entries < 2 ^ 63 → IsSmall (summary entries)
small entries n = record {
  calls = n;
  rows = omega (arith, few is_row entries);
  ends = omega (arith, few is_end entries);
  commits = omega (arith, few is_commit entries);
  refused = omega (arith, few is_refusal entries);
}

abbrev counts : ℕ → ℕ → ℕ → ℕ → ℕ → Summary
counts calls rows ends commits refused = record { calls = calls; rows = rows; ends = ends; commits = commits; refused = refused }

more : (entries : List Entry) (e : Entry) → summary (entries ++ e ∷ []) ≡ with_reply (summary entries) e.reply
more entries e =
    let long : length (entries ++ e ∷ []) ≡ length entries + 1 = length-append entries (e ∷ []) in
    rw (long, replies_more is_row entries e, replies_more is_end entries e, replies_more is_commit entries e, replies_more is_refusal entries e) refl

pub entry_more : (entries : List Entry) (i : ℕ) (e : Entry) (now : Summary) → (i < length entries) × (e ≡ get_or entries i e) → now ≡ summary (take i entries) → with_reply now e.reply ≡ summary (take (i + 1) entries)
entry_more entries i e now there is =
    ap (λ (s : Summary). with_reply s e.reply) is
    ∙ sym (more (take i entries) e)
    ∙ ap (λ (d : Entry). summary (take i entries ++ d ∷ [])) there.1
    ∙ ap summary (sym (take_more entries i e there.0))
