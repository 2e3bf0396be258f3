use Rattle.exh_legal.proofs.Begun.{begun_grown}
use Rattle.exh_legal.proofs.laws.fitting_tables_begin_wards.Goals as goal

pub returns : goal.returns
returns c cap pseudo ward table pages legal fits = record {
  legal = record { legal = legal; grown = begun_grown legal.linked fits };
  fits = fits;
}
