use Rattle.std.proofs.Common.{◌≤◌, sym, ap, ◌∙◌, arith}
use Rattle.std.proofs.lemmas.Bool.{false≢true}
use Rattle.exh_page.specs.declared.page.Page.{Page}
use Rattle.exh_page.specs.Page.{low_bound}
use Rattle.exh_prefix.specs.Prefix.{low_of}
use Rattle.exh_direct.specs.Way.{lead_of}
use Rattle.exh_direct.proofs.Ways.{leads_home, leads_right}
use Rattle.exh_direct.proofs.lead.lead_of.Goals as goal

pub returns-then-begins : goal.returns-then-begins
returns-then-begins c =
    let low : low_of c.in-Live.prefix ≤ c.args.pseudokey = omega (arith, c.low.ensures, ap low_bound c.in-Live.is, c.if-low-pseudokey.false) in
    sym (ap (λ (page : Page). lead_of page c.args.pseudokey) c.in-Live.is ∙ leads_home c.in-Live.prefix c.in-Live.right c.in-Live.records c.args.pseudokey low (c.begins.ensures.0 c.if-begins.true))

pub returns-else-begins : goal.returns-else-begins
returns-else-begins c =
    let low : low_of c.in-Live.prefix ≤ c.args.pseudokey = omega (arith, c.low.ensures, ap low_bound c.in-Live.is, c.if-low-pseudokey.false) in
    c.lead_right.ensures
    ∙ sym (ap (λ (page : Page). lead_of page c.args.pseudokey) c.in-Live.is ∙ leads_right c.in-Live.prefix c.in-Live.right c.in-Live.records c.args.pseudokey low (λ begun. false≢true (sym c.if-begins.false ∙ c.begins.ensures.1 begun)))
