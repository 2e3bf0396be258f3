use Rattle.std.proofs.Common.{◌≡◌, subst}
use Rattle.std.proofs.lemmas.Result.{IfErr-weaker}
use Rattle.exh_file.specs.declared.draft_fault.DraftFault.TheVariants.{Page}
use Rattle.exh_file.specs.Saved.{AreSound, HasCountedOf}
use Rattle.exh_file.proofs.draft.Draft.grown.Goals as goal

pub drafted-requires-clause-sound : goal.drafted-requires-clause-sound
drafted-requires-clause-sound g c = subst AreSound c.deref.ensures.value c.order_grown.ensures.sound

pub returns-in-Some-clause-counted : goal.returns-in-Some-clause-counted
returns-in-Some-clause-counted g c =
    IfErr-weaker c.drafted.result _ (λ fault. fault ≡ Page → HasCountedOf g.P.Pages.failures c.args.opened.wards) (λ fault why page. subst (HasCountedOf g.P.Pages.failures) c.into_wards-wards.ensures.wards (why page)) c.drafted.ensures.counted
