use Rattle.std.specs.Prelude.{codes}
use Rattle.exh_prefix.specs.Prefix.{prefix_text}
use Rattle.exh_compact.proofs.Told.{on_ok, three}
use Rattle.exh_compact.proofs.text.push_longest.Goals as goal

pub returns : goal.returns
returns c =
    on_ok c.push_text-2.result
    (three c.args.out.now.items c.push_text.new.out.items c.push_prefix.new.out.items c.push_text-2.new.out.items (codes ", longest prefix ") (prefix_text c.args.prefix.now) (codes "\n") c.in_ok-push_text.ensures.ok c.in_ok-push_prefix.ensures.ok)
    c.push_text-2.ensures.ok
