use Rattle.std.proofs.Common.{◌≡◌, ◌∙◌, ℕ, List, refl}
use Rattle.exh_text.specs.Expect.{after_word, next_word}
use Rattle.exh_text.specs.declared.expect.Expect.{Expect}
use Rattle.exh_text.specs.declared.expect.Expect.TheVariants.{File, Cap, Wards, Copies, Keyer, Moves, Keyword, Request, Client, Copy, Verb, OnlyRequest, OnlyKey, Key, SwapKey, Old, Value, CopyWardIndex, WardIndex, Index, TwoNumbers, Number, End}
use Rattle.exh_text.proofs.expect.Expect.after_word.Goals as goal

-- whatever the word is
by_place : (place : Expect) (word : List ℕ) → (place ≡ Keyword → ⊥) → (place ≡ Verb → ⊥) → after_word place ≡ next_word place word
by_place File word keyword verb = refl
by_place Cap word keyword verb = refl
by_place Wards word keyword verb = refl
by_place Copies word keyword verb = refl
by_place Keyer word keyword verb = refl
by_place Moves word keyword verb = refl
by_place Keyword word keyword verb = absurd (keyword refl)
by_place Request word keyword verb = refl
by_place Client word keyword verb = refl
by_place Copy word keyword verb = refl
by_place Verb word keyword verb = absurd (verb refl)
by_place OnlyRequest word keyword verb = refl
by_place OnlyKey word keyword verb = refl
by_place Key word keyword verb = refl
by_place SwapKey word keyword verb = refl
by_place Old word keyword verb = refl
by_place Value word keyword verb = refl
by_place CopyWardIndex word keyword verb = refl
by_place WardIndex word keyword verb = refl
by_place Index word keyword verb = refl
by_place TwoNumbers word keyword verb = refl
by_place Number word keyword verb = refl
by_place End word keyword verb = refl

pub returns-in_default : goal.returns-in_default
returns-in_default c = c.next.ensures ∙ by_place c.args.self c.args.word.now c.in_default.not-Keyword c.in_default.not-Verb
