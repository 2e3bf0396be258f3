use Rattle.std.proofs.Common.{◌≡◌, ℕ, ◌*◌, List, length, ap, sym, ◌∙◌, subst, arith}
use Rattle.std.specs.List.{AllByRecursion, flat_map}
use Rattle.exh_codec.specs.BlockLemmas.{length-padded, length-sealed}
use Rattle.exh_codec.specs.PageImage.{padded}
use Rattle.exh_cells.specs.WalkImage.{IsTidy, cell_bytes}
use Rattle.exh_cells.proofs.CellBytes.{length-cells}
use Rattle.exh_cells.proofs.WalkBytes.{one_list, read_of, says_of}
use Rattle.exh_cells.proofs.block_laws.walk_blocks_pass.Goals as goal

pub returns : goal.returns
returns c = record {
  pass = λ count cells block image len.
      let said = says_of count cells block image len in (
        said.is_sealed,
        (
          record {
            tidy = λ others rest are. subst (AllByRecursion IsTidy) (one_list count block cells others _ rest said.are are) said.tidy;
            behind = said.behind;
          },
          tt,
        ),
      );
  blocks = λ cells block image.
      let used = flat_map cell_bytes cells in
      length-sealed block (padded 4064 used) (length-padded 4064 used (omega (arith, length-cells cells (read_of cells image.valid), image.few))) image.whole;
  one = λ block one other len first second.
      one_list (length one) block one other _ _ (says_of (length one) one block first (λ i. length one)).are (says_of (length one) other block second (sym len)).are;
}
