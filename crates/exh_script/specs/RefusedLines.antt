-- Lines that a caller has answered one by one, and who goes on after one that was refused.
use Rattle.std.specs.Prelude.{◌≡◌, ◌⊎◌, ℕ, Bool, List, [], ◌∷◌, ◌++◌, map, All, Result, Ok, Err, IsErr}
use Rattle.exh_world.specs.Alike.{AreAlike, AreOthers}
use Rattle.exh_script.specs.Replies.{world_left}
use Rattle.exh_script.specs.Text.{ScriptWorld, CountsPageFault, after_line, line_response, response_text, text_from}
use Rattle.exh_script.specs.declared.response_fault.ResponseFault.{ResponseFault}
use Rattle.exh_script.specs.declared.response_fault.ResponseFault.TheVariants.{Memory, Page}

-- ---- what a refused line leaves

-- whatever lines come, they are answered over both worlds with the same text, and leave worlds that are equal but for the wards' counts of page faults
abbrev pub GoOnAlike : Bool → ScriptWorld → ScriptWorld → Type 0
GoOnAlike tells_moves one other = (lines : List (List ℕ)) → (text_from tells_moves one lines ≡ text_from tells_moves other lines) × AreAlike (world_left one lines) (world_left other lines)

-- all goes on as without the line, which want of memory may also have stopped only when its text was printed: then all goes on as after it
abbrev pub LeavesTheOthers : Bool → ScriptWorld → List ℕ → ScriptWorld → Type 0
LeavesTheOthers tells_moves old line new = GoOnAlike tells_moves old new ⊎ (new ≡ after_line old line)

-- ---- lines that were answered one by one

-- a line, and its text, or why it has none
pub record Told : Type 0 where
  pub line : List ℕ
  pub came : Result (List ℕ) ResponseFault

-- with the worlds before and after it
pub record LineMoment : Type 0 where
  pub before : ScriptWorld
  pub told : Told
  pub after : ScriptWorld

-- what a line may come to, and what is left
abbrev pub MayCome : Bool → ScriptWorld → List ℕ → Result (List ℕ) ResponseFault → ScriptWorld → Type 0
MayCome tells_moves old line (Ok text) new = (text ≡ response_text (line_response tells_moves old line)) × (new ≡ after_line old line)
MayCome tells_moves old line (Err Page) new = CountsPageFault old new
MayCome tells_moves old line (Err Memory) new = (new ≡ old) ⊎ (new ≡ after_line old line)

-- the moments lead from one world to another
abbrev pub AreAnswered : Bool → ScriptWorld → List LineMoment → ScriptWorld → Type 0
AreAnswered tells_moves start [] end = end ≡ start
AreAnswered tells_moves start (moment ∷ moments) end =
    (moment.before ≡ start) × MayCome tells_moves start moment.told.line moment.told.came moment.after × AreAnswered tells_moves moment.after moments end

-- ---- without lines that were refused

-- the line was refused, and not done
pub record IsUndone (moment : LineMoment) : Type 0 where
  pub refused : IsErr moment.told.came
  pub undone : AreAlike moment.before moment.after

-- the same line, text and refusal, between worlds that are alike
pub record IsSameLine (other moment : LineMoment) : Type 0 where
  pub told : other.told ≡ moment.told
  pub before : AreAlike moment.before other.before
  pub after : AreAlike moment.after other.after

-- the other lines come to the same without those left out, between worlds that are alike
pub record OthersAnswered (tells_moves : Bool) (moments : List LineMoment) (end twin : ScriptWorld) (others : List Told) : Type 0 where
  pub left : List LineMoment
  pub last : ScriptWorld
  pub told : map (λ moment. moment.told) left ≡ others
  pub answered : AreAnswered tells_moves twin left last
  pub same : AreOthers IsUndone IsSameLine moments left
  pub alike : AreAlike end last

-- of all lines that were answered one by one, without any of those that were refused and not done, from the same world and from each that is alike
abbrev pub RefusedLinesLeaveTheOthers : Type 0
RefusedLinesLeaveTheOthers = (tells_moves : Bool) (start : ScriptWorld) (moments : List LineMoment) (end : ScriptWorld) → AreAnswered tells_moves start moments end
    → (others : List Told) → AreOthers IsUndone (λ other moment. other ≡ moment.told) moments others → (twin : ScriptWorld) → AreAlike start twin → OthersAnswered tells_moves moments end twin others

-- ---- where each line has a text

abbrev pub HasText : Told → Type 0
HasText told = (text : List ℕ) × (told.came ≡ Ok text)

abbrev pub text_told : Result (List ℕ) ResponseFault → List ℕ
text_told (Ok text) = text
text_told (Err fault) = []

abbrev pub texts_told : List LineMoment → List ℕ
texts_told [] = []
texts_told (moment ∷ moments) = text_told moment.told.came ++ texts_told moments

abbrev pub lines_told : List LineMoment → List (List ℕ)
lines_told moments = map (λ moment. moment.told.line) moments

-- the texts are what a script prints of the lines, and the world after them is the one that it leaves
abbrev pub AnsweredLinesAreAScripts : Type 0
AnsweredLinesAreAScripts = (tells_moves : Bool) (start : ScriptWorld) (moments : List LineMoment) (end : ScriptWorld) → AreAnswered tells_moves start moments end → All (λ moment. HasText moment.told) moments
    → (texts_told moments ≡ text_from tells_moves start (lines_told moments)) × (end ≡ world_left start (lines_told moments))

-- lines are answered alike over worlds that are alike
abbrev pub LinesGoAlike : Type 0
LinesGoAlike = (tells_moves : Bool) (one other : ScriptWorld) → AreAlike one other → GoOnAlike tells_moves one other
