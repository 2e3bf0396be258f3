-- What is printed of the lines of pairs, and behind them of their records.
use Rattle.std.proofs.Common.{◌≡◌, ◌≢◌, ℕ, ◌+◌, ◌-◌, List, ◌++◌, Option, Result, Ok, Err, IfErr, sym, ap, ◌∙◌, subst, append_assoc, arith}
use Rattle.std.specs.Prelude.{codes, IsErr, IsErrAnd}
use Rattle.exh_stream.specs.Output.{Takes, TakesBeginning}
use Rattle.exh_stream.specs.OutputLemmas.{Takes-then, TakesBeginning-of_more, TakesBeginning-then}
use Rattle.exh_stream.specs.declared.output.Output.{Output}
use Rattle.exh_load.specs.Load.{TakesFront, at_end, load_begun, loaded, number_line, record_count}
use Rattle.exh_load.specs.Loading.{Loading, loaded_from, load_text_from}
use Rattle.exh_load.specs.declared.load_fault.LoadFault.{LoadFault}
use Rattle.exh_load.specs.declared.load_fault.LoadFault.TheVariants.{Write}
use Rattle.exh_load.proofs.Lines.{lines_then, text_lines}
use Rattle.exh_load.proofs.Loads.{front_of_more}

-- a fault that is handed on
pub handed_on : {T : Type 0} {P : Type 0} (result : Result T LoadFault) (fault : LoadFault) → IsErr result × IsErrAnd result (λ f. f ≡ fault) → (fault ≢ Write → P) → IfErr result (λ f. f ≢ Write → P)
handed_on (Ok value) fault is holds = tt
handed_on (Err other) fault is holds = λ differs. holds (λ same. differs (is.1 ∙ same))

-- lines, whose records are counted
module _ (first left : Loading) (lines : List (List ℕ)) where
  abbrev last : List ℕ
  last = number_line (codes "loaded ") (record_count (loaded_from first lines) - record_count first)

  pub records_told : (records : ℕ) → left ≡ loaded_from first lines → records + record_count first ≡ record_count left → records ≡ record_count (loaded_from first lines) - record_count first
  records_told records left_is counted = omega (arith, counted, ap record_count left_is)

  module _ {W : Type 0} (contents : W → Option (List ℕ)) (old mid : Output W) where
    pub lines_begun : TakesBeginning contents old mid (load_text_from first lines) → TakesBeginning contents old mid (loaded at_end first lines).printed
    lines_begun begun = TakesBeginning-of_more last begun

    pub lines_front : TakesFront contents old mid (load_text_from first lines) → TakesFront contents old mid (loaded at_end first lines).printed
    lines_front front = front_of_more contents old mid (load_text_from first lines) last front

    module _ (new : Output W) (taken : Takes contents old mid (load_text_from first lines)) (records : ℕ) (told : records ≡ record_count (loaded_from first lines) - record_count first) where
      pub pairs_out : Takes contents mid new (number_line (codes "loaded ") records) → Takes contents old new (loaded at_end first lines).printed
      pairs_out line = Takes-then taken (subst (λ n. Takes contents mid new (number_line (codes "loaded ") n)) told line)

      pub pairs_begun : TakesBeginning contents mid new (number_line (codes "loaded ") records) → TakesBeginning contents old new (loaded at_end first lines).printed
      pairs_begun line = TakesBeginning-then taken (subst (λ n. TakesBeginning contents mid new (number_line (codes "loaded ") n)) told line)

      pub pairs_front : TakesFront contents mid new (number_line (codes "loaded ") records) → TakesFront contents old new (loaded at_end first lines).printed
      pairs_front line =
          let front : TakesFront contents mid new last = subst (λ n. TakesFront contents mid new (number_line (codes "loaded ") n)) told line in
          record {
            front = load_text_from first lines ++ front.front;
            rest = front.rest;
            split = ap (λ l. load_text_from first lines ++ l) front.split ∙ sym (append_assoc (load_text_from first lines) front.front front.rest);
            lines = lines_then (load_text_from first lines) front.front (text_lines first lines) front.lines;
            taken = Takes-then taken front.taken;
          }

-- ---- what a first line begins, where it is taken

pub begun_is : (begun : Result Loading ℕ) (first : Loading) (lines : List (List ℕ)) → begun ≡ Ok first → loaded at_end first lines ≡ load_begun at_end begun lines
begun_is begun first lines is = sym (ap (λ b. load_begun at_end b lines) is)
