use Rattle.std.proofs.Common.{◌≡◌, ℕ, ◌+◌, List, [], ◌∷◌, ◌++◌, length, sym, ap, ◌∙◌, subst, arith}
use Rattle.std.specs.Prelude.{Option, option_to_list}
use Rattle.std.proofs.KnownBytes.{Consumes-trans}
use Rattle.std.proofs.lemmas.List.{length_push}
use Rattle.exh_pair_text.specs.declared.place.Place.{Place}
use Rattle.exh_pair_text.specs.declared.place.Place.TheVariants.{Start}
use Rattle.exh_pair_text.specs.Places.{place_behind}
use Rattle.exh_pair_text.specs.Records.{IsOneLine, place_by}
use Rattle.exh_import.specs.LineReader.{AreTaken, text_left}
use Rattle.exh_import.proofs.Texts.{more_in_line, place_of_more}
use Rattle.exh_import.proofs.line_reader.LineReader.next_line.Goals as goal

pub bytes-preserved : goal.bytes-preserved
bytes-preserved g c =
    let R = g.R.Read.remaining in
    let i = c.bytes.invariant in
    let now = c.next_byte.new.self in
    let byte = c.in-Some.byte in
    let items : now.line.items ≡ c.bytes.self.line.items = ap (λ line. line.items) c.in_ok-byte.ensures.line in
    let pushed : c.push_byte.new.line.items ≡ c.bytes.self.line.items ++ byte ∷ [] = c.in_ok-push_byte.ensures ∙ ap (λ (line : List ℕ). line ++ byte ∷ []) items in
    let one = subst (λ (o : Option ℕ). AreTaken R c.bytes.self now (option_to_list o)) c.in-Some.is c.in_ok-byte.ensures.taken in
    record {
      same_reader = c.in_ok-byte.ensures.same_reader ∙ i.same_reader;
      ends = c.in_ok-byte.ensures.ends;
      taken = subst (AreTaken R c.args.self.now now) (sym pushed) (Consumes-trans (text_left R c.args.self.now) (text_left R c.bytes.self) (text_left R now) c.bytes.self.line.items (byte ∷ []) i.taken one);
      place =
          c.place_after-place.ensures ∙ ap (λ (p : Place). place_by c.args.format p byte) i.place
          ∙ sym (ap (λ (line : List ℕ). place_behind (place_by c.args.format) Start line) pushed ∙ place_of_more c.args.format c.bytes.self.line.items byte);
      one = subst (IsOneLine c.args.format) (sym pushed) (more_in_line c.args.format c.bytes.self.line.items byte i.one (λ is. sym i.place ∙ c.ends_line.ensures.amid c.if-ends_line.false is));
      counted = ap length pushed ∙ length_push c.bytes.self.line.items byte ∙ ap (λ (n : ℕ). n + 1) i.counted;
      some = λ none. absurd (omega (arith, ap length (sym pushed ∙ none), length_push c.bytes.self.line.items byte));
    }
