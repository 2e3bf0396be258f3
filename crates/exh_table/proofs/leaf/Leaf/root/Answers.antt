use Rattle.std.proofs.Common.{◌*◌, ◌^◌, [], subst, ap, lit≤, ◌∙◌}
use Rattle.exh_prefix.specs.BitLemmas.{number_of-zeros}
use Rattle.exh_prefix.specs.Prefix.{HasPrefix}
use Rattle.exh_prefix.specs.PrefixLemmas.{HasPrefix-low_of, low_of-product}
use Rattle.exh_prefix.specs.PrefixListLemmas.{some_if_holds}
use Rattle.exh_table.proofs.leaf.Leaf.root.Goals as goal

pub unwrap-requires : goal.unwrap-requires
unwrap-requires c = some_if_holds c.new.result _ _ c.new.ensures (subst (HasPrefix 0) (low_of-product [] ∙ ap (λ n. n * 2 ^ 64) (number_of-zeros 0)) (HasPrefix-low_of [] (lit≤ tt)))
