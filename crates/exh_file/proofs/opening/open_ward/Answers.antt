use Rattle.std.proofs.Common.{◌≡◌, List, [], refl, sym, ap, ◌∙◌, subst, arith}
use Rattle.exh_prefix.specs.Leading.{ward_prefix}
use Rattle.exh_format.specs.HeaderLemmas.{few_wards}
use Rattle.exh_keyer.specs.Pseudokey.{any_pseudokey}
use Rattle.exh_keyer.specs.declared.any_keyer.AnyKeyer.{AnyKeyer}
use Rattle.exh_legal.specs.LegalLaws.{IsWard}
use Rattle.exh_page.specs.declared.page.Page.{Page}
use Rattle.exh_ward.specs.WardState.{WardState}
use Rattle.exh_ward.specs.declared.ward_fault.WardFault.{WardFault}
use Rattle.exh_ward.specs.declared.ward_fault.WardFault.TheVariants.{NoPage, NotLive, NotFull, AtLimit, NoBuddy, BuddySplit, TooMany, Worn, Memory as NoMemory, Page as OutOfReach}
use Rattle.exh_file.specs.OpenFault.{open_fault_of}
use Rattle.exh_file.specs.declared.open_fault.OpenFault.TheVariants.{Page as Unreached}
use Rattle.exh_file.specs.Opening.{ward_opened}
use Rattle.exh_file.proofs.opening.open_ward.Goals as goal

-- the one refusal that is told as a page out of reach
out_of_reach : (fault : WardFault) → open_fault_of fault ≡ Unreached → fault ≡ OutOfReach
out_of_reach NoPage is = cc
out_of_reach NotLive is = cc
out_of_reach NotFull is = cc
out_of_reach AtLimit is = cc
out_of_reach NoBuddy is = cc
out_of_reach BuddySplit is = cc
out_of_reach (TooMany sum) is = cc
out_of_reach Worn is = cc
out_of_reach NoMemory is = cc
out_of_reach OutOfReach is = refl

pub from_pages-requires-clause-legal : goal.from_pages-requires-clause-legal
from_pages-requires-clause-legal g c =
    let settings = c.args.header.now.settings in
    subst (λ pages. IsWard settings.cap (any_pseudokey settings.keyer) (ward_prefix settings.ward_bits c.args.number) c.args.table [] c.args.table pages) (sym c.in_ok-store.ensures.pages) c.requires.legal.legal

pub returns-in-Ok-clause-opened : goal.returns-in-Ok-clause-opened
returns-in-Ok-clause-opened g c =
    let header = c.args.header.now in
    let ward = c.in-Ok.ward in
    let failures = g.P.Pages.failures c.in_ok-store.store in
    let is = c.in-Ok.ensures.ward in
    record {
      is = is ∙ ap (λ (pages : List Page). ward_opened header c.args.number pages c.args.table failures) c.in_ok-store.ensures.pages
          ∙ ap (ward_opened header c.args.number (g.M.Read.PageList.pages c.args.pages) c.args.table) (sym (ap (λ (ward : WardState AnyKeyer). ward.failures) is));
      sound = c.in-Ok.ensures.sound;
    }

pub returns-in-Err-clause-counted : goal.returns-in-Err-clause-counted
returns-in-Err-clause-counted g c = λ page.
    let left = c.in-Err.ensures.page_fault (out_of_reach c.in-Err.fault (sym c.of_ward.ensures ∙ page)) in
    (c.in_ok-store.store, left.0, c.in_ok-store.ensures.pages, left.1)

pub from_pages-requires-clause-takes : goal.from_pages-requires-clause-takes
from_pages-requires-clause-takes g c page formed = c.in_ok-store.ensures.takes page (c.requires.takes page formed)

pub from_pages-requires-clause-bits : goal.from_pages-requires-clause-bits
from_pages-requires-clause-bits g c = omega (arith, few_wards c.args.header.now.settings.ward_bits c.requires.header.1.wards)
