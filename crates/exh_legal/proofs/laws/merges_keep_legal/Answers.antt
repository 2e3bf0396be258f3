use Rattle.std.proofs.Common.{◌≡◌, ◌<◌, sym, ap, ◌∙◌, subst, [], arith}
use Rattle.exh_prefix.specs.Prefix.{IsFront}
use Rattle.exh_table.specs.declared.Kind.TheVariants.{Merge, Split}
use Rattle.exh_page.specs.Page.{low_bound, with_records}
use Rattle.exh_legal.specs.BareLemmas.{bare_at, at_bare, bare_low}
use Rattle.exh_legal.specs.ChangeNumbers.{number_at}
use Rattle.exh_legal.proofs.MergeLinks.{stays}
use Rattle.exh_legal.proofs.MergeLegal.{bare_joined, merge_legal, merge_map}
use Rattle.exh_legal.proofs.MergeFit.{merge_fits}
use Rattle.exh_legal.proofs.MergeGrown.{merge_grown}
use Rattle.exh_legal.proofs.TableSteps.{index_with}
use Rattle.exh_legal.proofs.laws.merges_keep_legal.Goals as goal

pub returns : goal.returns
returns c cap pseudo ward start changes table pages at prefix new notice words is merge at_prefix next_number kind =
    let legal = is.legal.legal in
    let joined = bare_joined words legal merge in
    let later : number_at table notice.prefix < notice.number = omega (arith, next_number, ap (number_at table) at_prefix) in
    let left = merge_legal words legal merge in
    record {
      legal = record { legal = left; grown = merge_grown legal.linked joined is.legal.grown notice at_prefix kind };
      fits = merge_fits legal.linked joined is.fits notice at_prefix next_number kind;
      told = record {
        within = subst (IsFront ward) (sym at_prefix) (left.linked.within at _ (bare_at new at _ merge.merged)).0;
        right = λ right is_split. let both : Merge ≡ Split right = sym kind ∙ is_split in cc;
      };
      map = merge_map words legal merge;
      places = λ number page is_at.
          let kept = stays legal.linked joined number (with_records [] page) (bare_at pages number page is_at) in
          let full = at_bare new number kept.0 kept.1 in
          (full.0, full.1, sym (bare_low full.0) ∙ sym (ap low_bound full.2) ∙ kept.2 ∙ bare_low page);
      index = omega (arith, index_with table notice later, next_number, ap (number_at table) at_prefix);
    }
