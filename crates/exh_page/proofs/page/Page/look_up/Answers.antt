use Rattle.std.proofs.Common.{◌≡◌, List, Option, Result, Ok, Err, refl, sym, ap, ◌∙◌, subst}
use Rattle.std.specs.Result.{result_ok}
use Rattle.exh_page.specs.declared.page.Page.{Page}
use Rattle.exh_page.specs.declared.record.Record.{Record}
use Rattle.exh_page.specs.declared.spot.Spot.{Spot}
use Rattle.exh_page.specs.Page.{records_of}
use Rattle.exh_page.specs.Place.{Place}
use Rattle.exh_page.specs.Records.{value_at}
use Rattle.exh_page.specs.Search.{IsSought, IsStood}
use Rattle.exh_page.proofs.Searched.{no_value_at_gap}
use Rattle.exh_page.proofs.page.Page.look_up.Goals as goal
use Rattle.exh_page.proofs.page.Page.look_up.Goals.{in-Live, in-Forward}

-- where a search found the record, if it did
stood_of : (place : Place) (records : List Record) (sought : Result Spot Spot) → IsSought place records sought → IsStood place records (result_ok sought)
stood_of place records (Ok spot) is = is
stood_of place records (Err spot) is = sym (no_value_at_gap is.1 refl)

stood_in : (place : Place) (page : Page) (records : List Record) (sought : Result Spot Spot) (spot : Option Spot) → records_of page ≡ records → spot ≡ result_ok sought → IsSought place records sought
    → IsStood place (records_of page) spot
stood_in place page records sought spot same is found =
    subst (λ all. IsStood place all spot) (sym same) (subst (IsStood place records) (sym is) (stood_of place records sought found))

pub returns : goal.returns
returns c =
    let place : Place = (c.args.pseudokey, c.args.key.now) in
    elim c.match-self.branch [
      | in-Live w ↦ record {
        head = c.head.ensures;
        spot = stood_in place c.args.self.now _ _ _ (ap records_of w.in-Live.is) (ap (λ pair. pair.0) w.spot-is ∙ w.ok.ensures.value) w.seek-spot.ensures.spot;
        value = ap (λ pair. pair.1) w.spot-is ∙ w.seek-spot.ensures.value ∙ ap (value_at place) (sym (ap records_of w.in-Live.is));
      }
      | in-Forward w ↦ record {
        head = c.head.ensures;
        spot = subst (λ spot. IsStood place (records_of c.args.self.now) spot) (sym (ap (λ pair. pair.0) w.spot-is)) (ap (λ page. value_at place (records_of page)) w.in-Forward.is);
        value = ap (λ pair. pair.1) w.spot-is ∙ sym (ap (λ page. value_at place (records_of page)) w.in-Forward.is);
      }
    ]
