use Rattle.lines.proofs.StopLemmas.{all_stops}
use Rattle.lines.proofs.laws.tabs_end_at_stops.Goals as goal

pub returns : goal.returns
returns c = all_stops
