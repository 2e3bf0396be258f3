use Rattle.std.proofs.Common.{◌≡◌, ◌<◌, [], length, unwrap_or, Some, sym, ap, ◌∙◌}
use Rattle.std.specs.Option.{option_map}
use Rattle.exh_page.specs.declared.value.TheConstants.{VALUE_LIMIT}
use Rattle.exh_pair_text.specs.declared.spelled.Spelled.TheVariants.{Few, Many}
use Rattle.exh_pair_text.specs.Spelled.{spelled}
use Rattle.exh_pair_text.proofs.Cases.{above, spelled_few, spelled_many}
use Rattle.exh_pair_text.proofs.spelled.of_word.Goals as goal

pub returns-in-Some : goal.returns-in-Some
returns-in-Some c =
    let found = sym c.in_ok-bytes.ensures in
    sym (ap (option_map spelled) found ∙ ap Some (spelled_few c.in_ok-bytes.bytes c.in-Some.ensures.0 ∙ ap Few (sym c.in-Some.ensures.1)))

pub returns-in-None : goal.returns-in-None
returns-in-None c =
    let found = sym c.in_ok-bytes.ensures in
    let count : c.word_length.result ≡ length c.in_ok-bytes.bytes = c.word_length.ensures ∙ ap (λ o. length (unwrap_or o [])) found in
    let long : VALUE_LIMIT < length c.in_ok-bytes.bytes = above _ c.in-None.ensures in
    sym (ap (option_map spelled) found ∙ ap Some (spelled_many c.in_ok-bytes.bytes long ∙ ap Many (sym count)))
