-- Where pages lead a request for a pseudokey.
use Rattle.std.specs.Prelude.{ℕ, cond, nat_le, Option, None, Some}
use Rattle.exh_prefix.specs.Prefix.{begins}
use Rattle.exh_page.specs.declared.page.Page.{Page}
use Rattle.exh_page.specs.declared.page.Page.TheVariants.{Live, Forward}
use Rattle.exh_page.specs.Page.{low_bound}
use Rattle.exh_direct.specs.declared.lead.Lead.{Lead}
use Rattle.exh_direct.specs.declared.lead.Lead.TheVariants.{Home, Nowhere, To}

abbrev pub lead_right : Option ℕ → Lead
lead_right None = Nowhere
lead_right (Some right) = To right

-- from a page that isn't beyond the pseudokey: its own page is where it was to go, another live one leads right, and a
-- forwarding one to its target
abbrev pub lead_within : Page → ℕ → Lead
lead_within (Live prefix right records) pseudokey = cond (begins prefix pseudokey) Home (lead_right right)
lead_within (Forward low target) pseudokey = To target

-- a page beyond it leads nowhere
abbrev pub lead_of : Page → ℕ → Lead
lead_of page pseudokey = cond (nat_le (low_bound page) pseudokey) (lead_within page pseudokey) Nowhere
