use Rattle.std.proofs.Common.{◌≡◌, ℕ, List, [], ◌∷◌, subst}
use Rattle.exh_page.specs.declared.page.Page.{Page}
use Rattle.exh_page.specs.declared.page.Page.TheVariants.{Live, Forward}
use Rattle.exh_calls.specs.Call.{key_of}
use Rattle.exh_ward.specs.HopTable.{IsReached, LeadsTo, Overflows}
use Rattle.exh_page.specs.KeyMap.{KeyMap}
use Rattle.exh_calls.specs.declared.call.Call.{Call}
use Rattle.exh_calls.specs.declared.call.Call.TheVariants.{Get}
use Rattle.exh_walk.specs.WardMoves.{AreMoves}
use Rattle.exh_walk.proofs.GoHome.{ends_at_home}
use Rattle.exh_walk.proofs.laws.gets_go_home.Goals as goal

get_fits : (cap : ℕ) (m : KeyMap) (page : Page) (key : List ℕ) → Overflows cap m page (Get key) → ⊥
get_fits cap m (Live prefix right records) key over = let set = over.3 in cc
get_fits cap m (Forward low target) key over = over

moves_of_other : (cap : ℕ) (pseudo : List ℕ → ℕ) (pages : List Page) (from : ℕ) (call other : Call) (moves : List ℕ) (to : ℕ)
    → pseudo (key_of call) ≡ pseudo (key_of other) → AreMoves cap pseudo pages call from moves to → AreMoves cap pseudo pages other from moves to
moves_of_other cap pseudo pages from call other [] to same go = go
moves_of_other cap pseudo pages from call other (next ∷ moves) to same go =
    let P : ℕ → Type 0 = λ k. (page : Page) × IsReached pages from k page × LeadsTo page k next in
    (subst P same go.0, moves_of_other cap pseudo pages next call other moves to same go.1)

pub returns-clause-gets : goal.returns-clause-gets
returns-clause-gets c cap pseudo ward pages from key on =
    let home = ends_at_home cap pseudo pages (Get key) c.one_hop.ensures c.right_links_lead_on.ensures ward from on in
    (home.way, home.answered (get_fits cap _ home.way.page key))

pub returns-clause-calls : goal.returns-clause-calls
returns-clause-calls c cap pseudo ward pages from call on = ends_at_home cap pseudo pages call c.one_hop.ensures c.right_links_lead_on.ensures ward from on

pub returns-clause-same : goal.returns-clause-same
returns-clause-same c = moves_of_other
