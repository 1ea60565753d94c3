-- Pairs as the code has them.
use Rattle.std.specs.Prelude.{ℕ}
use Rattle.rv_lang.specs.declared.reply.Rival.{Rival}
use Rattle.rv_lang.specs.declared.reply.Which.{Which}
use Rattle.rv_text.specs.Replies.{Pair}

abbrev pub pair_by : ℕ × ℕ → Pair ℕ ℕ
pair_by p = record { first = p.0; second = p.1 }

abbrev pub limit_by : Which × ℕ → Pair Which ℕ
limit_by p = record { first = p.0; second = p.1 }

abbrev pub duplicate_by : ℕ × Rival → Pair ℕ Rival
duplicate_by p = record { first = p.0; second = p.1 }
