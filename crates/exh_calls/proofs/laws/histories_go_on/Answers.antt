use Rattle.exh_calls.specs.HistoryLemmas.{IsHistory-push, map_left-push}
use Rattle.exh_calls.proofs.laws.histories_go_on.Goals as goal

pub returns : goal.returns
returns c cap pseudo base journal entry history reply = record { history = IsHistory-push cap pseudo base journal entry history reply; left = map_left-push cap pseudo base journal entry }
