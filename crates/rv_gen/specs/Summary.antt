-- The summary of a history.
use Rattle.std.specs.Prelude.{ℕ, ◌+◌, ◌<◌, ◌^◌, List, [], ◌∷◌, ◌++◌, Bool, true, false, codes, decimal, length, filter}
use Rattle.rv_lang.specs.declared.reply.Reply.{Reply}
use Rattle.rv_lang.specs.declared.reply.Reply.TheVariants.{Row, End, Committed, Refused}
use Rattle.rv_model.specs.declared.entry.Entry.{Entry}
use Rattle.rv_gen.specs.declared.summary.Summary.{Summary}

-- a row
unfoldable pub is_row : Reply → Bool
is_row (Row values) = true
is_row reply = false

-- the end of a cursor
unfoldable pub is_end : Reply → Bool
is_end End = true
is_end reply = false

-- a commit
unfoldable pub is_commit : Reply → Bool
is_commit (Committed number) = true
is_commit reply = false

-- a refusal
unfoldable pub is_refusal : Reply → Bool
is_refusal (Refused refusal) = true
is_refusal reply = false

-- how many entries have a reply of such a kind
abbrev pub replies : (Reply → Bool) → List Entry → ℕ
replies such entries = length (filter (λ (e : Entry). such e.reply) entries)

-- the entries, and those of them that give a row, the end, a commit or a refusal
abbrev pub summary : List Entry → Summary
summary entries = record {
  calls = length entries;
  rows = replies is_row entries;
  ends = replies is_end entries;
  commits = replies is_commit entries;
  refused = replies is_refusal entries;
}

-- one entry more

abbrev pub one_if : Bool → ℕ
one_if true = 1
one_if false = 0

abbrev pub with_reply : Summary → Reply → Summary
with_reply s reply = record {
  calls = s.calls + 1;
  rows = s.rows + one_if (is_row reply);
  ends = s.ends + one_if (is_end reply);
  commits = s.commits + one_if (is_commit reply);
  refused = s.refused + one_if (is_refusal reply);
}

-- Each count may go up by one.
pub record IsSmall (s : Summary) : Type 0 where
  pub calls : s.calls < 2 ^ 63
  pub rows : s.rows < 2 ^ 63
  pub ends : s.ends < 2 ^ 63
  pub commits : s.commits < 2 ^ 63
  pub refused : s.refused < 2 ^ 63

-- a word and a count, on a line
abbrev pub summary_line : List ℕ → ℕ → List ℕ
summary_line word count = word ++ decimal count ++ 10 ∷ []

-- the five lines of a summary
abbrev pub summary_text : Summary → List ℕ
summary_text s =
    summary_line (codes "calls ") s.calls ++ summary_line (codes "rows ") s.rows
    ++ summary_line (codes "ends ") s.ends ++ summary_line (codes "commits ") s.commits
    ++ summary_line (codes "refused ") s.refused
