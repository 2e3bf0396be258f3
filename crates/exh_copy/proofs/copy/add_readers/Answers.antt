use Rattle.std.proofs.Common.{◌≡◌, ◌+◌, ◌≤◌, ℕ, Bool, true, List, [], ◌∷◌, ◌++◌, length, replicate, Result, Ok, Err, IfOk, MatchResult, is_ok, refl, sym, ap, ◌∙◌, subst, arith}
use Rattle.std.proofs.lemmas.Bool.{true≢false}
use Rattle.std.proofs.lemmas.List.{append-nil, append_assoc, replicate_more}
use Rattle.std.proofs.lemmas.Result.{IfOk-from_err}
use Rattle.left_right.specs.Sides.{view}
use Rattle.exh_copy.specs.declared.addition.Addition.{Addition}
use Rattle.exh_copy.specs.Additions.{Additions, Held}
use Rattle.exh_copy.proofs.Keeps.{admits}
use Rattle.exh_copy.proofs.copy.add_readers.Goals as goal

abbrev held : ℕ → List Addition → Held
held name additions = record { name = name; additions = additions }

same_held : (one other : ℕ) (additions : List Addition) → other ≡ one → additions ≡ [] → held other additions ≡ held one []
same_held one other additions named none = cc

one_reader_more : (made items new : List Held) (name other count : ℕ) (additions : List Addition) → items ≡ made ++ replicate count (held name []) → other ≡ name → additions ≡ []
    → new ≡ items ++ held other additions ∷ [] → new ≡ made ++ replicate (count + 1) (held name [])
one_reader_more made items new name other count additions was named none grown =
    grown ∙ ap (λ one. items ++ one ∷ []) (same_held name other additions named none) ∙ ap (λ front. front ++ held name [] ∷ []) was
    ∙ append_assoc made (replicate count (held name [])) (held name [] ∷ []) ∙ ap (λ back. made ++ back) (replicate_more count (held name []))

all_made : {X : Type 0} (made items : List X) (one : X) (count all : ℕ) → items ≡ made ++ replicate count one → all ≤ count → count ≤ all → items ≡ made ++ replicate all one
all_made made items one count all was least most = subst (λ n. items ≡ made ++ replicate n one) (omega (arith, least, most)) was

-- what holds of a result's value holds of that which came through
came : {X E F : Type 0} (P : X → Type 0) (r : Result X E) (x : X) (now : Result X F) (G : E → Type 0) → now ≡ Ok x → MatchResult r (λ y. now ≡ Ok y) G → true ≡ is_ok r → IfOk r P → P x
came P (Ok y) x now G is same ok has =
    let one : y ≡ x = cc in
    subst P one has
came P (Err e) x now G is same ok has = absurd (true≢false ok)

pub reader-requires : goal.reader-requires
reader-requires g c = admits g.S.Start.table g.S.Start.ward_bits

pub loop-init : goal.loop-init
loop-init g c = (sym (append-nil c.args.made.now.items), omega arith, refl)

pub push_reserved-requires : goal.push_reserved-requires
push_reserved-requires g c = omega (arith, c.loop.invariant.1, c.loop.invariant.2, c.requires, c.loop-test.true)

pub invariant_of-push_reserved : goal.invariant_of-push_reserved
invariant_of-push_reserved g c =
    let nothing = came (λ reader. view reader.place ≡ []) c.reader.result c.in_ok-reader.reader _ _ refl c.in_ok-reader.ensures.cases c.in_ok-reader.ensures.variant c.reader.ensures.view in
    sym (ap length nothing)

pub loop-preserved : goal.loop-preserved
loop-preserved g c =
    let was = c.loop.invariant in
    let now = c.push_reserved.ensures in
    let nothing = came (λ reader. view reader.place ≡ []) c.reader.result c.in_ok-reader.reader _ _ refl c.in_ok-reader.ensures.cases c.in_ok-reader.ensures.variant c.reader.ensures.view in
    let named : c.of.result.name ≡ c.args.writer.now.name = c.of.ensures ∙ ap (λ (writer : Additions). writer.name) c.writer.view_is in (
      one_reader_more c.args.made.now.items c.loop.made.items _ c.args.writer.now.name c.of.result.name c.loop.counter _ was.0 named nothing now.items,
      omega (arith, was.1, now.len),
      now.capacity ∙ was.2,
    )

pub returns-in_err-reader : goal.returns-in_err-reader
returns-in_err-reader g c = IfOk-from_err c.from_residual.result _ c.from_residual.ensures.0

pub returns : goal.returns
returns g c = all_made c.args.made.now.items c.loop.made.items (held c.args.writer.now.name []) c.loop.counter c.args.readers c.loop.invariant.0 c.loop-test.false c.loop.auto.counter-end
