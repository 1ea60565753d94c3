-- Believed (chapter SHOW): the control that follows a happening, as a table.
use Rattle.std.specs.Prelude.{Bool, true, false, Option, Some, None}
use Rattle.rv_judge.specs.declared.events.Strategy.{Strategy}
use Rattle.rv_judge.specs.declared.events.Strategy.TheVariants.{FastFirst, Sorted, IndexOnly}
use Rattle.rv_judge.specs.declared.events.Control.{Control}
use Rattle.rv_judge.specs.declared.events.Control.TheVariants.{Building, ForegroundAlone, BackgroundAlone, FinalList, FinalTable, Done}
use Rattle.rv_judge.specs.declared.judging.Verdict.TheVariants.{AbandonScan, AbandonForeground, AbandonBackground}
use Rattle.rv_judge.specs.declared.events.Happening.{Happening}
use Rattle.rv_judge.specs.declared.events.Happening.TheVariants.{ScanEnded, Ruled, Full, FrontEnded, FinalEnded}

-- the final stage, with a complete list or without
abbrev pub final_stage : Bool → Control
final_stage true = FinalList
final_stage false = FinalTable

-- A scan completed or was abandoned; whether there is more to scan; whether a list is complete.
abbrev pub after_scan : Strategy → Control → Bool → Bool → Option Control
after_scan strategy Building true listed = Some Building
after_scan strategy BackgroundAlone true listed = Some BackgroundAlone
after_scan strategy BackgroundAlone false listed = Some (final_stage listed)
after_scan FastFirst Building false listed = Some (final_stage listed)
after_scan Sorted Building false listed = Some ForegroundAlone
after_scan IndexOnly Building false true = Some FinalList
after_scan IndexOnly Building false false = Some ForegroundAlone
after_scan strategy control more listed = None

-- the background was abandoned, with a complete list or without
abbrev pub after_background : Strategy → Control → Bool → Option Control
after_background strategy BackgroundAlone listed = Some (final_stage listed)
after_background FastFirst Building listed = Some (final_stage listed)
after_background Sorted Building listed = Some ForegroundAlone
after_background IndexOnly Building listed = Some ForegroundAlone
after_background strategy control listed = None

-- THE COURSE: the control that follows, or none where the happening changes nothing.
abbrev pub course : Strategy → Control → Happening → Option Control
course strategy now (ScanEnded more listed) = after_scan strategy now more listed
course strategy now (Ruled AbandonScan more listed) = after_scan strategy now more listed
course strategy now (Ruled AbandonBackground more listed) = after_background strategy now listed
course FastFirst Building (Ruled AbandonForeground more listed) = Some BackgroundAlone
course IndexOnly Building (Ruled AbandonForeground more listed) = Some BackgroundAlone
course FastFirst Building Full = Some BackgroundAlone
course IndexOnly Building Full = Some ForegroundAlone
course Sorted Building FrontEnded = Some Done
course Sorted ForegroundAlone FrontEnded = Some Done
course IndexOnly Building FrontEnded = Some Done
course IndexOnly ForegroundAlone FrontEnded = Some Done
course strategy FinalList FinalEnded = Some Done
course strategy FinalTable FinalEnded = Some Done
course strategy now happening = None
