use Rattle.std.proofs.Common.{rules, arith}
use Rattle.exh_notice.specs.ImageLemmas.{same_in_four}
use Rattle.exh_notice.proofs.entry.Entry.to_image.Goals as goal

pub returns : goal.returns
returns c version fits shorter =
    rw (same_in_four version fits c.args.ward c.args.prefix c.args.self.now (omega (arith, shorter))) (search rules)
