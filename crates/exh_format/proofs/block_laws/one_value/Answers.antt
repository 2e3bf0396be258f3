use Rattle.exh_format.proofs.HeaderPassed.{one_header}
use Rattle.exh_format.proofs.TablePassed.{one_table}
use Rattle.exh_format.proofs.block_laws.one_value.Goals as goal

pub returns-clause-headers : goal.returns-clause-headers
returns-clause-headers c version fits block one other first second = one_header version fits one other block first second

pub returns-clause-tables : goal.returns-clause-tables
returns-clause-tables c version fits block one other first second = one_table version fits one other block first second
