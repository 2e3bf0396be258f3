-- The moves of a call: where its hops send it on to.
use Rattle.std.specs.Prelude.{◌≡◌, ◌≢◌, ℕ, List, [], ◌∷◌, length}
use Rattle.exh_page.specs.declared.page.Page.{Page}
use Rattle.exh_calls.specs.Call.{key_of}
use Rattle.exh_ward.specs.HopTable.{HopOf}
use Rattle.exh_legal.specs.Pages.{IsAt, IsHome}
use Rattle.exh_calls.specs.declared.call.Call.{Call}
use Rattle.exh_ward.specs.declared.hop.Hop.{Hop}
use Rattle.exh_ward.specs.declared.hop.Hop.TheVariants.{Moved}
use Rattle.exh_ward.specs.Distance.{IsDistance}

-- a hop at each page moves on to the next of the list, the first hop being where it begins, and the last to the page `to`
abbrev pub AreMoves : ℕ → (List ℕ → ℕ) → List Page → Call → ℕ → List ℕ → ℕ → Type 0
AreMoves cap pseudo pages call from [] to = from ≡ to
AreMoves cap pseudo pages call from (next ∷ moves) to = HopOf cap pseudo pages from call (Moved next) × AreMoves cap pseudo pages call next moves to

-- the outcome isn't a move
abbrev pub EndsMoves : Hop → Type 0
EndsMoves hop = (next : ℕ) → hop ≢ Moved next

-- the call's hops from a page end at the live page whose prefix begins its pseudokey, after as many moves as the distance says, and there is no other way
pub record GoesHome (cap : ℕ) (pseudo : List ℕ → ℕ) (pages : List Page) (from : ℕ) (call : Call) : Type 0 where
  pub moves : List ℕ
  pub home : ℕ
  pub go : AreMoves cap pseudo pages call from moves home
  pub page : Page
  pub there : IsAt pages home page
  pub begins : IsHome page (pseudo (key_of call))
  pub distance : IsDistance pages from (pseudo (key_of call)) (length moves)
  -- a list of moves that ends with an outcome other than a move is this one
  pub only : (others : List ℕ) (to : ℕ) (hop : Hop) → AreMoves cap pseudo pages call from others to → HopOf cap pseudo pages to call hop → EndsMoves hop → (others ≡ moves) × (to ≡ home)
