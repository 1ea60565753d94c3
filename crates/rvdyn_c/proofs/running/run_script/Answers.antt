use Rattle.std.proofs.Common.{[], ap}
use Rattle.rv_words.specs.Words.{asked_of}
use Rattle.rv_io.specs.declared.growing.GrowingSink.{GrowingSink}
use Rattle.rvdyn_c.proofs.Endings.{ends, nothing_accepted, nothing_asked}
use Rattle.rvdyn_c.proofs.running.run_script.Goals as goal

pub returns : goal.returns
returns c =
    let run = c.run_plain-ran.ensures in
    ends c.run_plain-ran.result.status c.run_plain-ran.result.core (λ core. core.engine.history) c.args.script.now _ c.run_plain-ran.new.source.left.now _ c.run_plain-ran.new.sink.bytes.items _ c.new-source.ensures c.new-sink.ensures.bytes c.into_bytes.ensures (record {
      done = run.done (asked_of []) nothing_asked;
      order = run.order (asked_of []) nothing_asked;
      memory = run.memory (asked_of []) nothing_asked;
      firsts = run.order_first (asked_of []) nothing_asked;
      usage = λ usage. run.usage.0 usage nothing_accepted;
      faulty = run.script;
      limit = run.limit;
      read = run.read;
      front = run.front (asked_of []) nothing_asked;
      early = λ none. ap (λ (s : GrowingSink). s.bytes.items) (run.early none);
    })
