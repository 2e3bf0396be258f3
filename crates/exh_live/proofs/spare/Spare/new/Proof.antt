-- The parts are put into a struct that owns nothing beside them. Assumes `Logic`.
use Rattle.std.proofs.Common.{◌≡◌, List, [], ◌∷◌, ◌++◌, refl}
use mir.Syntax.{Fn, a_type, dcons, dnil}
use mir.MapTy.{inst_fn}
use mir.Val.{Val, vstruct, vcons, vnil, of_list}
use base.Logic.{SProp, emp}
use base.Fml.{ftrue, fsep, feq}
use prog.Wp.{WpFn}
use contract.Monad.{fact, fact_i}
use contract.Running.{tables}
use types.Kit.{‵, raw, ◌⊛◌, prop, ◌$◌, ◌∵◌, !, qed, by, move, keep, drop, use0, split, join, rewrite, regoal, fsplit, fjoin, fpack, feq_i}
use types.Part.{agg}
use types.Run.{of_opd, no_more, and_then, returns, enter}
use types.ByLocal.{alloc_all, pass_all, free_all, look_at, get, sets}
use denote.Exit.{no}
use denote.RattleType.{RattleType, Valss, owns}
use denote.Signature.{types_at, plain}
use denote.Steps.{nothing}
use denote.Param.{param, bounded}
use denote.Param.Laws.{param_laws}
use denote.Triple.Entry.{alive}
use denote.Triple.Walked.{Stays, stay_dropped, walk_of, Goes-dropped}
use Rattle.std.proofs.raw_atomic.Walks.{proved_at, leaves}
use Rattle.std.specs.contracts.sync.ledger.Share as share
use Rattle.std.proofs.sync.ledger.Share.TheLaws as share_laws
use Rattle.exh_live.specs.contracts.spare.Spare as spare
use Rattle.exh_live.specs.contracts.spare.Spare.TheInside as inside
use Rattle.exh_live.specs.contracts.spare.Spare.new.{ended, clauses}
use Rattle.exh_live.specs.contracts.spare.Spare.new.Key.{name as #self}
use Rattle.exh_live.proofs.spare.Spare.new.Statement.{statement}
use Rattle.exh_live.proofs.spare.Spare.new.Code as code

pub new_spec : {M : Type 1} → statement M
new_spec 𝓤 𝓛 𝓜 𝓡 wired L laws g d _ =
    let H = 𝓛.H in let 𝓣 = tables 𝓤 H 𝓜 𝓡 𝓡.env in let T : RattleType = param 0 L in
    let En = ended L g d in let c = clauses L g d 𝓛 𝓜.mem 𝓡.returns in
    let inst = bounded (a_type ∷ []) (L, tt) (dcons d dnil) in let fn : Fn = inst_fn inst code.function in
    let In : RattleType = share.the_row T g in let Out : RattleType = spare.the_row T g in
    let stays : Stays En.signature.params En.kept = (stay_dropped (plain (λ _. In)) no, tt) in
    proved_at 𝓛 En stays c 𝓜 𝓡 (Goes-dropped 𝓛 1 (plain (λ _. In)) no (λ κs x f. refl), tt) (#self inst) fn (code.unfolded 𝓤 H 𝓜 𝓡 wired (L, tt) d) (λ z are.
    let Post : Val → SProp 𝓤 = (walk_of 𝓛 En stays c).post z in let a = z.0.3 in let vss = z.0.4 in let x = a.0 in
    let low = share_laws.lowers T g (param_laws 0 L laws) in let v : Val = low.lowered x in let w : Val = vstruct (vcons v vnil) in let r : Out.Denot = record { parts = x.parts; amount = x.amount } in
    let told : vss.0 ≡ v ∷ [] = low.val_is x vss.0 are.0 in
    qed 𝓛 ((raw (alive 𝓛 En.signature z.0.0 z.0.1) ⊛ ‵ (owns (types_at En.signature.params z.0.0) a vss)) ∷ raw ((c z.0.0 a).requires z.1) ∷ []) ∵
    move ! (1 ∷ []) $ drop ! $ split ! $ move ! (1 ∷ []) $ fsplit ! $ move ! (1 ∷ []) $ drop ! $
    regoal ! (λ (us : List Val). prop (WpFn 𝓤 H 𝓣.C 𝓣.Λ fn us Post)) (λ i. told i ++ []) refl $
    enter ! 𝓣.C 𝓣.Λ fn (v ∷ []) Post $ alloc_all ! (λ l. pass_all ! refl ((tt, (tt, tt)), tt) $
    sets ! (of_opd ! (get ! refl)) refl (tt, (tt, tt)) $ sets ! (agg ! (and_then ! (get ! refl) (no_more !))) refl (tt, ((tt, tt), tt)) $
    returns ! (look_at ! 0 refl) $ free_all ! refl $
    rewrite ! 0 (λ (us : List Val). ‵ (In.own_val x us)) told refl $
    nothing ! $ move ! (1 ∷ 0 ∷ []) $ fjoin ! $ feq_i ! (List Val) (w ∷ []) (w ∷ []) refl $ fjoin ! $
    fpack ! (Valss (In ∷ [])) (λ us. fsep (feq (List Val) (w ∷ []) (vstruct (of_list (us.0 ++ [])) ∷ [])) (owns (In ∷ []) (x, tt) us)) (v ∷ [], tt) $
    nothing ! $ move ! (1 ∷ 0 ∷ []) $ fjoin ! $ nothing ! $ move ! (1 ∷ 0 ∷ []) $ fjoin ! $
    fpack ! ((i : (inside.the_row T g).Denot) × ((spare.the_view T g i ≡ r) × spare.the_invariant T g i)) (λ i. fsep ((inside.the_row T g).own_val i.0 (w ∷ [])) ftrue) (record { share = x }, (refl, tt)) $
    nothing ! $ nothing ! $ fjoin ! $ use0 𝓛 (raw (fact 𝓤 (r.amount ≡ x.amount))) (fact_i 𝓤 (r.amount ≡ x.amount) (emp 𝓤) refl) $
    use0 𝓛 (raw (fact 𝓤 (r.parts ≡ x.parts))) (fact_i 𝓤 (r.parts ≡ x.parts) (emp 𝓤) refl) $ join ! $
    keep ! (3 ∷ 1 ∷ 2 ∷ 0 ∷ []) $ by ! (leaves 𝓛 En stays c z w r (tt, tt) (tt, tt))))
