use Rattle.std.proofs.Common.{not, refl, ap, ◌∙◌, arith}
use Rattle.std.proofs.lemmas.List.Elements.{filter-append}
use Rattle.std.proofs.lemmas.Bool.Decides.{nat_tests}
use Rattle.exh_text.specs.TextLines.{is_empty, lines_of, newline, without_empty}
use Rattle.exh_text.specs.TextLines.{parts_at}
use Rattle.exh_text.specs.TextLemmas.{parts_at-append, parts_at-one}
use Rattle.exh_text.proofs.laws.newlines_part_lines.Goals as goal

pub returns-clause-none : goal.returns-clause-none
unfolding lines_of parts_at
returns-clause-none c = refl

pub returns-clause-one : goal.returns-clause-one
unfolding lines_of
returns-clause-one c line some all = rw (parts_at-one newline line all) (grind (arith, nat_tests))

pub returns-clause-more : goal.returns-clause-more
unfolding lines_of
returns-clause-more c front rest = ap without_empty (parts_at-append newline front rest) ∙ filter-append (λ part. not (is_empty part)) (parts_at newline front) (parts_at newline rest)
