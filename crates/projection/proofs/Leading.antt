-- Whom a part doesn't name has nothing to do in it, and who doesn't lead follows where it is named.
use Rattle.std.proofs.Common.{◌≡◌, ℕ, Bool, true, false, ◌&&◌, ◌||◌, not, cond, filter, List, map, refl, sym, ap, ap₂, ◌∙◌}
use Rattle.dioc_terms.specs.declared.choreographies.Choreo.{Choreo}
use Rattle.dioc_terms.specs.declared.names.Index.{Index}
use Rattle.dioc_terms.specs.declared.names.Role.{Role}
use Rattle.dioc_terms.specs.declared.processes.ScopeHead.{ScopeHead}
use Rattle.dioc_terms.specs.declared.values.Value.{Value}
use Rattle.dioc_terms.specs.Equality.{member, role_eq}
use Rattle.dioc_terms.specs.Expressions.{Expression}
use Rattle.dioc_terms.specs.Leaves.{is_leaf_term}
use Rattle.dioc_terms.specs.Processes as process
use Rattle.dioc_terms.specs.Processes.{Process, Skip}
use Rattle.dioc_terms.specs.Terms.{Term, head_of, is_in, others, roles_in, term}
use Rattle.dioc_terms.specs.Terms as term
use Rattle.process_steps.specs.Steps.{ended}
use Rattle.projection.specs.Leaders.{leads}
use Rattle.projection.specs.Named.{flagged, named_in, names_itself, raised}
use Rattle.projection.specs.Projection.{projected}
use Rattle.projection.proofs.Flags.{both_named, choice_named, loop_named, others_flagged, roles_flagged, scope_named}
use Rattle.projection.proofs.Lemmas.{outsiders-have_ended}

-- follows where one of two has something to do
follows_one : (s a b : Bool) (P Q : Process) → s ≡ false → cond (not a && not b) Skip Q ≡ cond s P (cond ((s || a) || b) Q Skip)
follows_one true a b P Q led = cc
follows_one false true b P Q led = refl
follows_one false false true P Q led = refl
follows_one false false false P Q led = refl

pub follows_choice : (cast : List Role) (i : Index) (q : Role) (g : Expression) (I J : Term) (r : Role) → role_eq r q ≡ false
    → cond (ended (projected cast I r) && ended (projected cast J r)) Skip (process.IfFollow i q (projected cast I r) (projected cast J r)) ≡ projected cast (term.If i q g I J) r
follows_choice cast i q g I J r led =
    ap₂ (λ (s t : Bool). cond (s && t) Skip (process.IfFollow i q (projected cast I r) (projected cast J r))) (outsiders-have_ended cast I r) (outsiders-have_ended cast J r)
    ∙ follows_one (role_eq r q) (is_in r I) (is_in r J) _ _ led

follows_body : (s a : Bool) (P Q : Process) → s ≡ false → cond (not a) Skip Q ≡ cond s P (cond (s || a) Q Skip)
follows_body true a P Q led = cc
follows_body false true P Q led = refl
follows_body false false P Q led = refl

pub follows_loop : (cast : List Role) (i : Index) (q : Role) (g : Expression) (I : Term) (r : Role) → role_eq r q ≡ false
    → cond (ended (projected cast I r)) Skip (process.WhileFollow i q (projected cast I r)) ≡ projected cast (term.While i q g I) r
follows_loop cast i q g I r led =
    ap (λ t. cond t Skip (process.WhileFollow i q (projected cast I r))) (outsiders-have_ended cast I r) ∙ follows_body (role_eq r q) (is_in r I) _ _ led

follows_either : (s a m : Bool) (P Q : Process) (f : Process → Process) → s ≡ false
    → cond (not (not a)) (f Q) (cond (s || m) (f Skip) Skip) ≡ cond s P (cond ((s || a) || m) (f (cond a Q Skip)) Skip)
follows_either true a m P Q f led = cc
follows_either false true m P Q f led = refl
follows_either false false m P Q f led = refl

pub follows_scope : (cast : List Role) (i : Index) (q : Role) (I : Term) (extra : List Role) (props : List (List ℕ × Value)) (level : ℕ) (r : Role) → role_eq r q ≡ false
    → cond (not (ended (projected cast I r))) (process.ScopeFollow i q (projected cast I r)) (cond (names_itself r (term.Scope i q I extra props level)) (process.ScopeFollow i q Skip) Skip)
    ≡ projected cast (term.Scope i q I extra props level) r
follows_scope cast i q I extra props level r led =
    ap (λ t. cond (not t) (process.ScopeFollow i q (projected cast I r)) (cond (names_itself r (term.Scope i q I extra props level)) (process.ScopeFollow i q Skip) Skip)) (outsiders-have_ended cast I r)
    ∙ follows_either (role_eq r q) (is_in r I) (member r extra) _ (projected cast I r) (process.ScopeFollow i q) led

-- a construct that the code has found
pub choice_at : {W : Term} {i : Index} {q : Role} {g : Expression} (y n y' n' : Choreo) → W ≡ term.If i q g (term y) (term n) → y' ≡ y → n' ≡ n → W ≡ term.If i q g (term y') (term n')
choice_at {W} {i} {q} {g} y n y' n' is first second = is ∙ ap₂ (λ (a b : Choreo). term.If i q g (term a) (term b)) (sym first) (sym second)

pub loop_at : {W : Term} {i : Index} {q : Role} {g : Expression} (b b' : Choreo) → W ≡ term.While i q g (term b) → b' ≡ b → W ≡ term.While i q g (term b')
loop_at {W} {i} {q} {g} b b' is body = is ∙ ap (λ (a : Choreo). term.While i q g (term a)) (sym body)

pub scope_at : {W : Term} {i : Index} {q : Role} {extra : List Role} {props : List (List ℕ × Value)} {level : ℕ} (b b' : Choreo) → W ≡ term.Scope i q (term b) extra props level → b' ≡ b
    → W ≡ term.Scope i q (term b') extra props level
scope_at {W} {i} {q} {extra} {props} {level} b b' is body = is ∙ ap (λ (a : Choreo). term.Scope i q (term a) extra props level) (sym body)

-- the flags of what stands inside, over those of the construct itself
own_named : {W V : Term} (cast : List Role) (own : List Bool) → W ≡ V → own ≡ map (λ q. names_itself q W) cast → own ≡ map (λ q. names_itself q V) cast
own_named cast own is flags = flags ∙ ap (λ (w : Term). map (λ q. names_itself q w) cast) is

pub choice_flags : {W : Term} {i : Index} {q : Role} {g : Expression} {I J : Term} (cast : List Role) (own mid now : List Bool) → W ≡ term.If i q g I J → own ≡ map (λ q. names_itself q W) cast
    → mid ≡ raised (named_in cast I) own → now ≡ raised (named_in cast J) mid → now ≡ named_in cast W
choice_flags {W} {i} {q} {g} {I} {J} cast own mid now is flags first second =
    second ∙ ap (raised (named_in cast J)) (first ∙ ap (raised (named_in cast I)) (own_named cast own is flags)) ∙ choice_named cast q I J ∙ sym (ap (named_in cast) is)

pub loop_flags : {W : Term} {i : Index} {q : Role} {g : Expression} {I : Term} (cast : List Role) (own now : List Bool) → W ≡ term.While i q g I → own ≡ map (λ q. names_itself q W) cast
    → now ≡ raised (named_in cast I) own → now ≡ named_in cast W
loop_flags {W} {i} {q} {g} {I} cast own now is flags body = body ∙ ap (raised (named_in cast I)) (own_named cast own is flags) ∙ loop_named cast q I ∙ sym (ap (named_in cast) is)

pub scope_flags : {W : Term} {i : Index} {q : Role} {I : Term} {extra : List Role} {props : List (List ℕ × Value)} {level : ℕ} (cast : List Role) (own now : List Bool)
    → W ≡ term.Scope i q I extra props level → own ≡ map (λ q. names_itself q W) cast → now ≡ raised (named_in cast I) own → now ≡ named_in cast W
scope_flags {W} {i} {q} {I} {extra} {props} {level} cast own now is flags body =
    body ∙ ap (raised (named_in cast I)) (own_named cast own is flags) ∙ scope_named cast q I extra ∙ sym (ap (named_in cast) is)

-- the leader tells the others that the flags pick
leads_one : (s : Bool) (P Q : Process) → s ≡ true → P ≡ cond s P Q
leads_one true P Q led = refl
leads_one false P Q led = cc

told_by : {W V : Term} (cast : List Role) (q : Role) (told : List Role) (now : List Bool) → W ≡ V → told ≡ filter (λ p. not (role_eq p q)) (flagged cast now) → now ≡ named_in cast W → told ≡ others cast q V
told_by {W} cast q told now is picked flags = picked ∙ ap (λ l. filter (λ p. not (role_eq p q)) (flagged cast l)) flags ∙ others_flagged cast W q ∙ ap (others cast q) is

pub leads_choice : {W : Term} {i : Index} {q : Role} {g : Expression} {I J : Term} {P Q : Process} (cast : List Role) (r : Role) (told : List Role) (now : List Bool) → W ≡ term.If i q g I J → leads r W ≡ true
    → told ≡ filter (λ p. not (role_eq p q)) (flagged cast now) → now ≡ named_in cast W → P ≡ projected cast I r → Q ≡ projected cast J r → process.IfLead i g told P Q ≡ projected cast W r
leads_choice {W} {i} {q} {g} {I} {J} cast r told now is led picked flags first second =
    ap₂ (λ (P Q : Process). process.IfLead i g told P Q) first second
    ∙ ap (λ (rs : List Role). process.IfLead i g rs (projected cast I r) (projected cast J r)) (told_by cast q told now is picked flags)
    ∙ leads_one (role_eq r q) _ _ (sym (ap (leads r) is) ∙ led)
    ∙ sym (ap (λ (w : Term). projected cast w r) is)

pub leads_loop : {W : Term} {i : Index} {q : Role} {g : Expression} {I : Term} {P : Process} (cast : List Role) (r : Role) (told : List Role) (now : List Bool) → W ≡ term.While i q g I → leads r W ≡ true
    → told ≡ filter (λ p. not (role_eq p q)) (flagged cast now) → now ≡ named_in cast W → P ≡ projected cast I r → process.WhileLead i g told P ≡ projected cast W r
leads_loop {W} {i} {q} {g} {I} cast r told now is led picked flags body =
    ap₂ (λ (rs : List Role) (P : Process). process.WhileLead i g rs P) (told_by cast q told now is picked flags) body
    ∙ leads_one (role_eq r q) _ _ (sym (ap (leads r) is) ∙ led)
    ∙ sym (ap (λ (w : Term). projected cast w r) is)

pub leads_scope : {W : Term} {i : Index} {q : Role} {I : Term} {extra : List Role} {props : List (List ℕ × Value)} {level : ℕ} {P : Process} {head : ScopeHead} (cast : List Role) (r : Role) (told : List Role)
    (now : List Bool) → W ≡ term.Scope i q I extra props level → leads r W ≡ true → head ≡ (record { index = i; leader = q; roles = flagged cast now; props = props; level = level })
    → told ≡ filter (λ p. not (role_eq p q)) (flagged cast now) → now ≡ named_in cast W → P ≡ projected cast I r → process.ScopeLead head told P ≡ projected cast W r
leads_scope {W} {i} {q} {I} {extra} {props} {level} {P} cast r told now is led shown picked flags body =
    ap (λ (h : ScopeHead). process.ScopeLead h told P) (shown ∙ ap (λ (rs : List Role). record { index = i; leader = q; roles = rs; props = props; level = level }) (ap (flagged cast) flags ∙ roles_flagged cast W ∙ ap (roles_in cast) is))
    ∙ ap₂ (λ (rs : List Role) (P : Process). process.ScopeLead (head_of cast i q I extra props level) rs P) (told_by cast q told now is picked flags) body
    ∙ leads_one (role_eq r q) _ _ (sym (ap (leads r) is) ∙ led)
    ∙ sym (ap (λ (w : Term). projected cast w r) is)

none_of_two : (s t : Bool) (P Q : Process) → (s || t) ≡ false → cond s P (cond t Q Skip) ≡ Skip
none_of_two true t P Q h = cc
none_of_two false true P Q h = cc
none_of_two false false P Q h = refl

not_one : (s : Bool) (P : Process) → s ≡ false → cond s P Skip ≡ Skip
not_one true P h = cc
not_one false P h = refl

pub out_of_leaf : (cast : List Role) (I : Term) (r : Role) → is_leaf_term I ≡ true → is_in r I ≡ false → projected cast I r ≡ Skip
out_of_leaf cast term.Skip r leaf named = refl
out_of_leaf cast (term.Com i o a e b x) r leaf named = none_of_two (role_eq r a) (role_eq r b) _ _ named
out_of_leaf cast (term.Set i x q e) r leaf named = not_one (role_eq r q) _ named
out_of_leaf cast (term.Input i x q) r leaf named = not_one (role_eq r q) _ named
out_of_leaf cast (term.Seq I J) r leaf named = cc
out_of_leaf cast (term.Par I J) r leaf named = cc
out_of_leaf cast (term.If i q g I J) r leaf named = cc
out_of_leaf cast (term.While i q g I) r leaf named = cc
out_of_leaf cast (term.Scope i q I extra props level) r leaf named = cc

-- by these a role follows a construct that it doesn't lead
pub ruleset following_rules = (follows_choice, follows_loop, follows_scope, both_named)
