-- The entries of a transcript, as they are read.
use Rattle.std.specs.Prelude.{ℕ, ◌+◌, ◌-◌, List, [], ◌∷◌, ◌++◌, ◌&&◌, nat_le, ◌==◌, Option, Some, None, Result, Ok, Err, if◌then◌else◌}
use Rattle.std.specs.Str.{is_utf8}
use Rattle.rv_lang.specs.declared.reply.Reply.{Reply}
use Rattle.rv_model.specs.declared.entry.Entry.{Entry}
use Rattle.rv_text.specs.Lines.{split}
use Rattle.rv_text.specs.Replies.{reply_at}

-- a session and its call
pub record Call : Type 0 where
  pub session : ℕ
  pub text : List ℕ

abbrev pub call_at : List ℕ → Option Call
call_at (s ∷ b ∷ text) =
    if (nat_le 49 s && nat_le s 56) && ((b == 32) && is_utf8 text) then Some (record { session = s - 48; text = text })
    else None
call_at _ = None

abbrev pub answer_at : List ℕ → Option Reply
answer_at (a ∷ b ∷ text) = if (a == 61) && (b == 32) then reply_at text else None
answer_at _ = None

abbrev pub entry_of : Call → Reply → Entry
entry_of call reply = record { session = call.session; phase = 1; text = call.text; reply = reply }

abbrev pub entries_before : List Entry → Result (List Entry) ℕ → Result (List Entry) ℕ
entries_before before (Ok entries) = Ok (before ++ entries)
entries_before before (Err line) = Err line

-- without a further line
abbrev pub whole : ℕ → List ℕ → Result (List Entry) ℕ
whole n [] = Ok []
whole n (c ∷ rest) = Err n

-- the fault of a call without an answer, which is in the line behind it where it is one
abbrev pub lone : ℕ → Option Call → Result (List Entry) ℕ
lone n None = Err n
lone n (Some call) = Err (n + 1)

abbrev pub paired : ℕ → Option Call → Option Reply → Result (List Entry) ℕ → Result (List Entry) ℕ
paired n None answer more = Err n
paired n (Some call) None more = Err (n + 1)
paired n (Some call) (Some reply) more = entries_before (entry_of call reply ∷ []) more

-- what lines say, the first having the number n: a call and its answer, and so on
abbrev pub calls_of : ℕ → List (List ℕ) → List ℕ → Result (List Entry) ℕ
calls_of n [] rest = whole n rest
calls_of n (l ∷ []) rest = lone n (call_at l)
calls_of n (l ∷ m ∷ ls) rest = paired n (call_at l) (answer_at m) (calls_of (n + 2) ls rest)

abbrev pub read_from : ℕ → List ℕ → Result (List Entry) ℕ
read_from n bytes = calls_of n (split bytes).lines (split bytes).rest
