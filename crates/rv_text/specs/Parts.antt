-- Parts of a trace as the code has them.
use Rattle.std.specs.Prelude.{[]}
use Rattle.rv_text.specs.declared.traces.Part.{Part}
use Rattle.rv_text.specs.declared.traces.Part.TheVariants as parts
use Rattle.rv_text.specs.declared.traces.Next.{Next}
use Rattle.rv_text.specs.declared.traces.Next.TheVariants as nexts
use Rattle.rv_text.specs.declared.traces.Reads.{Reads}
use Rattle.rv_text.specs.declared.traces.Tail.{Tail}
use Rattle.rv_text.specs.Traces.{Awaited, Awaits, Counts, Dropped, Event, Gives, Keys, Listed, Scanned, Step}

abbrev pub part_by : Part → Awaited
part_by parts.Event = Event
part_by parts.Scanned = Scanned
part_by parts.Listed = Listed
part_by (parts.Keys name) = Keys name.now
part_by parts.Dropped = Dropped

abbrev pub next_by : Next → Step
next_by (nexts.Part part) = Awaits (part_by part)
next_by (nexts.Event event) = Gives event
next_by nexts.Counts = Counts

abbrev pub tail_by : Reads → Tail
tail_by reads = record { events = []; pages = reads.pages; leaves = reads.leaves; fetches = reads.fetches }
