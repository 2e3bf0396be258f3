use Rattle.exh_calls.proofs.EntryLists.{as_many}
use Rattle.exh_calls.proofs.Order.{written_down}
use Rattle.std.proofs.Common.{get_or}
use Rattle.exh_calls.proofs.settled_laws.settled_books_agree.Goals as goal

pub returns : goal.returns
returns c = λ ward_of journals diaries settled. record {
  as_many = as_many ward_of journals diaries settled;
  each = λ k d within. written_down ward_of journals (get_or diaries k d) (settled.same k d within);
}
