-- A name owns nothing, so it may go to another thread.
use denote.Param.Send.{IsSend}
use Rattle.exh_copy.specs.contracts.name.CopyName.{the_row}

pub send : IsSend the_row
send = record { owned = λ d vs. ((λ vss. (tt, ((λ uss. (tt, tt)), tt))), tt); leaving = λ k f vs. tt }
