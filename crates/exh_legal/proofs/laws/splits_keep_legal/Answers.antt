use Rattle.std.proofs.Common.{◌≡◌, ◌<◌, true, refl, sym, ap, ◌∙◌, subst, [], ◌∷◌, ◌++◌, arith}
use Rattle.exh_prefix.specs.Prefix.{IsFront, low_of}
use Rattle.exh_table.specs.declared.Kind.TheVariants.{Split}
use Rattle.exh_page.specs.Page.{low_bound, with_records}
use Rattle.exh_legal.specs.BareLemmas.{bare_at, at_bare, bare_low}
use Rattle.exh_legal.specs.Growth.{IsPageOf}
use Rattle.exh_legal.specs.ChangeNumbers.{number_at}
use Rattle.exh_legal.proofs.SplitLinks.{stays}
use Rattle.exh_legal.proofs.SplitLegal.{bare_parted, split_legal, split_map}
use Rattle.exh_legal.proofs.SplitFit.{split_fits}
use Rattle.exh_legal.proofs.SplitGrown.{split_grown}
use Rattle.exh_legal.proofs.TableSteps.{index_with}
use Rattle.exh_legal.proofs.laws.splits_keep_legal.Goals as goal

pub returns : goal.returns
returns c cap pseudo ward start changes table pages at prefix right new notice is split at_prefix next_number kind =
    let legal = is.legal.legal in
    let parted = bare_parted legal split in
    let later : number_at table notice.prefix < notice.number = omega (arith, next_number, ap (number_at table) at_prefix) in
    record {
      legal = record { legal = split_legal legal split; grown = split_grown legal.linked parted is.legal.grown notice at_prefix kind };
      fits = split_fits legal.linked parted is.fits notice at_prefix next_number kind;
      told = record {
        within = subst (IsFront ward) (sym at_prefix) (legal.linked.within at _ (bare_at pages at _ split.there)).0;
        right = λ other is_split.
            let both : Split right ≡ Split other = sym kind ∙ is_split in
            let same : right ≡ other = cc in
            subst (λ p. IsPageOf new (low_of (p ++ true ∷ [])) other) (sym at_prefix) (subst (IsPageOf new (low_of (prefix ++ true ∷ []))) same (_, split.right_half, refl));
      };
      map = split_map legal split;
      places = λ number page is_at.
          let kept = stays legal.linked parted number (with_records [] page) (bare_at pages number page is_at) in
          let full = at_bare new number kept.0 kept.1 in
          (full.0, full.1, sym (bare_low full.0) ∙ sym (ap low_bound full.2) ∙ kept.2 ∙ bare_low page);
      index = omega (arith, index_with table notice later, next_number, ap (number_at table) at_prefix);
    }
