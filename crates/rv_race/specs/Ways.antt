-- The scans of a race that are under way, and whose turn it is.
use Rattle.std.specs.Prelude.{ℕ, ◌+◌, Bool, ◌||◌, ◌&&◌, not, Option, Some, None, is_some, nat_lt, min, if◌then◌else◌}
use Rattle.rv_jscan.specs.Lanes.{no_lane}
use Rattle.rv_race.specs.declared.running.Runner.{Runner}
use Rattle.rv_race.specs.declared.running.Running.{Running}

-- a scan that has read nothing
abbrev pub begun : ℕ → Runner
begun scan = record { scan = scan; lane = no_lane }

-- the first two planned scans, before their first pieces; the lower one has the turn
abbrev pub first_two : Running
first_two = record { turn = begun 0; other = Some (begun 1); next = 2 }

-- the other scan, where there is one, has the next turn
abbrev pub turned_to : Option Runner → Running → Running
turned_to None w = w
turned_to (Some other) w = record w { turn = other; other = Some w.turn }

abbrev pub turned : Running → Running
turned w = turned_to w.other w

-- the scan whose turn it was is over: the other one goes on alone, or where there is none the next one begins
abbrev pub followed_by : Option Runner → Running → Running
followed_by None w = record { turn = begun w.next; other = None; next = w.next + 1 }
followed_by (Some other) w = record { turn = other; other = None; next = w.next }

abbrev pub followed : Running → Running
followed w = followed_by w.other w

-- the next one begins beside the scan whose turn it is
abbrev pub joined : Running → Running
joined w = record w { other = Some (begun w.next); next = w.next + 1 }

-- WHO GOES ON WHERE A SCAN IS OVER, of so many planned: while no list is complete two scans race
abbrev pub advanced : Bool → ℕ → Running → Running
advanced listed planned w = if not listed && nat_lt (followed w).next planned then joined (followed w) else followed w

-- whether a scan goes on behind the one whose turn it is
abbrev pub has_next : ℕ → Running → Bool
has_next planned w = is_some w.other || nat_lt w.next planned

-- the lower position of the scans under way
abbrev pub lower_of : Runner → Option Runner → ℕ
lower_of turn None = turn.scan
lower_of turn (Some other) = min turn.scan other.scan

abbrev pub lower : Running → ℕ
lower w = lower_of w.turn w.other
