-- Seats that are dealt: what was dealt before stays, and the last ones are there too.
use Rattle.std.proofs.Common.{◌≡◌, ℕ, zero, suc, List, [], ◌∷◌, ◌++◌, length, map, Option, Some, None, refl, sym, ap, subst, ◌∙◌, arith}
use Rattle.std.specs.Prelude.{slice_get}
use Rattle.std.specs.List.{AllByRecursion}
use Rattle.std.specs.declared.alloc.Global.{Global}
use Rattle.std.specs.declared.vec.Vec.{Vec}
use Rattle.std.proofs.lemmas.List.{length-map, map-append}
use Rattle.core_setup.proofs.Numbered.{all_append, none_some}
use Rattle.core_setup.proofs.PairLemmas.{get_here, get_one, get_within}
use Rattle.import_lock.specs.Terms.{PhaseTerms}
use Rattle.jour.specs.Seats.{journal}
use Rattle.phase_legal.specs.Shown.{AreBeside, HandView}
use Rattle.phase_room.specs.Dealt.{AreLonger, alone}
use Rattle.phase_room.proofs.Dealing.{all_more}
use Rattle.phase_actors.specs.declared.actor.Actor.{Actor}
use Rattle.phase_actors.proofs.Places.{get_map}
use Rattle.room_threads.specs.Acted.{HasActed}
use Rattle.room_threads.specs.declared.actor.Acted.{Acted}
use Rattle.phase_close.specs.Rooms.{HandsView}
use Rattle.phase_close.specs.Whole.{ArePassesOf, PassesView}
use Rattle.room_ends.specs.Left.{AreHandsOf}
use Rattle.room_members.specs.Members.{room_seen, turns_of}
use Rattle.room_members.specs.declared.member.Member.{Member}
use Rattle.room_members.specs.declared.room.Room.{Room}
use Rattle.room_run.specs.Inside.{AreAmong, AreDealt, AreStartSeats, Deals, DealsActor, IsDealt, actor_of, replies_in}
use Rattle.room_ends.specs.Played.{HasItem}
use Rattle.room_run.specs.declared.dealing.Dealt.{Dealt}

-- ---- lists

get_front : {X : Type 0} (xs ys : List X) (i : ℕ) (x : X) → slice_get xs i ≡ Some x → slice_get (xs ++ ys) i ≡ Some x
get_front [] ys i x e = none_some e
get_front (z ∷ xs) ys zero x e = e
get_front (z ∷ xs) ys (suc i) x e = get_front xs ys i x e

get_last : {X : Type 0} (xs : List X) (x : X) → slice_get (xs ++ x ∷ []) (length xs) ≡ Some x
get_last [] x = refl
get_last (y ∷ xs) x = get_last xs x

item_on : {X : Type 0} (xs ys more : List X) (x : X) → more ≡ xs ++ ys → HasItem xs x → HasItem more x
item_on xs ys more x e has = (has.0, ap (λ z. slice_get z has.0) e ∙ get_front xs ys has.0 x has.1)

item_last : {X : Type 0} (xs more : List X) (x : X) → more ≡ xs ++ x ∷ [] → HasItem more x
item_last xs more x e = (length xs, ap (λ z. slice_get z (length xs)) e ∙ get_last xs x)

list_was : {X : Type 0} (old new : List (Vec X Global)) (mine : List X) → AreLonger old new mine → (place : ℕ) (list : Vec X Global) → slice_get new place ≡ Some list
    → (was : Vec X Global) × (slice_get old place ≡ Some was) × (list.items ≡ was.items ++ alone (slice_get mine place))
list_was {X} old new mine longer place list at =
    let inside = get_within new place list at in
    let count = longer.count in
    let was = get_here old place (omega (arith, inside, count)) in
    let now = longer.each place was.0 was.1 in
    (was.0, was.1, ap (λ (v : Vec X Global). v.items) (sym (get_one new place now.0 list now.1 at)) ∙ now.2)

alone_all : {X : Type 0} (Q : X → Type 0) (found : Option X) → ((x : X) → found ≡ Some x → Q x) → AllByRecursion Q (alone found)
alone_all Q None all = tt
alone_all Q (Some x) all = (all x refl, tt)

-- ---- hands by protocol

among_last : (old new : List HandsView) (mine : List HandView) → AreLonger old new mine → AreAmong mine new
among_last old new mine longer = λ protocol hand list here at.
    let was = list_was old new mine longer protocol list at in
    item_last was.0.items list.items hand (was.2 ∙ ap (λ o. was.0.items ++ alone o) here)

among_on : (old new : List HandsView) (mine others : List HandView) → AreLonger old new mine → AreAmong others old → AreAmong others new
among_on old new mine others longer are = λ protocol hand list here at.
    let was = list_was old new mine longer protocol list at in
    item_on was.0.items (alone (slice_get mine protocol)) list.items hand was.2 (are protocol hand was.0 here was.1)

module _ {J P : Type 0} (terms : P → PhaseTerms) (room : Room J P) where
  list_on : (member : Member J P) (was list : HandsView) (found : Option HandView) → list.items ≡ was.items ++ alone found → AreHandsOf terms member was → ((hand : HandView) → found ≡ Some hand → journal hand ≡ turns_of terms member)
      → AreHandsOf terms member list
  list_on member was list found e are mine =
      subst (AllByRecursion (λ (hand : HandView). journal hand ≡ turns_of terms member)) (sym e)
      (all_append (λ (hand : HandView). journal hand ≡ turns_of terms member) was.items (alone found) are (alone_all (λ (hand : HandView). journal hand ≡ turns_of terms member) found mine))

  hands_on : (old new : List HandsView) (mine : List HandView) → AreLonger old new mine
      → ((i : ℕ) (member : Member J P) (hand : HandView) → slice_get room.members.items i ≡ Some member → slice_get mine i ≡ Some hand → journal hand ≡ turns_of terms member)
      → AreBeside (AreHandsOf terms) room.members.items old → AreBeside (AreHandsOf terms) room.members.items new
  hands_on old new mine longer mine_are are = record {
    count = longer.count ∙ are.count;
    each = λ i member list here at.
        list_on member (list_was old new mine longer i list at).0 list (slice_get mine i) (list_was old new mine longer i list at).2 (are.each i member (list_was old new mine longer i list at).0 here (list_was old new mine longer i list at).1)
        (λ hand there. mine_are i member hand here there);
  }

  passes_on : (old new : List PassesView) (mine : PassesView) → new ≡ old ++ mine ∷ [] → ArePassesOf room.tables.items mine → AllByRecursion (ArePassesOf room.tables.items) old → AllByRecursion (ArePassesOf room.tables.items) new
  passes_on old new mine e is are = subst (AllByRecursion (ArePassesOf room.tables.items)) (sym e) (all_append (ArePassesOf room.tables.items) old (mine ∷ []) are (is, tt))

  turns_at : (i : ℕ) (member : Member J P) → slice_get room.members.items i ≡ Some member → slice_get (room_seen terms room).turns i ≡ Some (turns_of terms member)
  turns_at i member here = get_map (turns_of terms) room.members.items i member here

  many_turns : length (room_seen terms room).turns ≡ length room.members.items
  many_turns = length-map room.members.items (turns_of terms)

  pub none_dealt : (none : Dealt) → length none.hands.items ≡ length room.members.items → ((place : ℕ) (list : HandsView) → slice_get none.hands.items place ≡ Some list → list.items ≡ []) → none.passes.items ≡ [] → none.told.items ≡ [] → AreDealt terms room [] none
  none_dealt none many empty passes told = record {
    hands_are = record {
      count = many;
      each = λ i member list here at. subst (AllByRecursion (λ (hand : HandView). journal hand ≡ turns_of terms member)) (sym (empty i list at)) tt;
    };
    passes_are = subst (AllByRecursion (ArePassesOf room.tables.items)) (sym passes) tt;
    told = told;
    each = λ k actor at. none_some at;
  }

  dealt_on : (old new : Dealt) (mine : List HandView) (passes : PassesView) (actor : Actor) → Deals mine passes old new → IsDealt terms room old actor → IsDealt terms room new actor
  dealt_on old new mine passes actor deals is = record {
    doing = is.doing;
    hands_among = among_on old.hands.items new.hands.items mine actor.hands.items deals.hands_are is.hands_among;
    passes_among = item_on old.passes.items (passes ∷ []) new.passes.items actor.passes deals.passes_are is.passes_among;
  }

  -- ---- one actor more

  module _ (acted : Acted) (has : HasActed terms room acted) where
    pub as_many : (actors : List Actor) (dealt : Dealt) → AreDealt terms room actors dealt → length acted.actor.hands.items ≡ length dealt.hands.items
    as_many actors dealt are = has.seats.hands_are.count ∙ many_turns ∙ sym are.hands_are.count

    dealt_last : (old new : Dealt) → acted.fault ≡ None → DealsActor acted.actor old new → IsDealt terms room new acted.actor
    dealt_last old new well deals = record {
      doing = has.done well;
      hands_among = among_last old.hands.items new.hands.items acted.actor.hands.items deals.seats.hands_are;
      passes_among = item_last old.passes.items new.passes.items acted.actor.passes deals.seats.passes_are;
    }

    pub dealt_more : (done : List Acted) (old new : Dealt) → acted.fault ≡ None → DealsActor acted.actor old new → AreDealt terms room (map actor_of done) old → AreDealt terms room (map actor_of (done ++ acted ∷ [])) new
    dealt_more done old new well deals are =
        let joined : map actor_of (done ++ acted ∷ []) ≡ map actor_of done ++ acted.actor ∷ [] = map-append actor_of done (acted ∷ []) in record {
          hands_are = hands_on old.hands.items new.hands.items acted.actor.hands.items deals.seats.hands_are
              (λ i member hand here at. (has.seats.hands_are.each i (turns_of terms member) hand (turns_at i member here) at).0) are.hands_are;
          passes_are = passes_on old.passes.items new.passes.items acted.actor.passes deals.seats.passes_are has.seats.passes_are are.passes_are;
          told = deals.told ∙ ap (λ z. z ++ acted.actor.replies ∷ []) are.told ∙ sym (ap (map replies_in) joined ∙ map-append replies_in (map actor_of done) (acted.actor ∷ []));
          each = all_more (IsDealt terms room new) (map actor_of done) (map actor_of (done ++ acted ∷ [])) acted.actor (λ k actor at. dealt_on old new acted.actor.hands.items acted.actor.passes actor deals.seats (are.each k actor at))
              (dealt_last old new well deals) joined;
        }

  -- ---- the seats for starts

  module _ (hands : List HandView) (passes : PassesView) (seats : AreStartSeats terms room hands passes.items) where
    pub starts_as_many : (actors : List Actor) (dealt : Dealt) → AreDealt terms room actors dealt → length hands ≡ length dealt.hands.items
    starts_as_many actors dealt are = seats.hands_are.count ∙ many_turns ∙ sym are.hands_are.count

    pub starts_among : (old new : Dealt) → Deals hands passes old new → AreAmong hands new.hands.items
    starts_among old new deals = among_last old.hands.items new.hands.items hands deals.hands_are

    pub starts_dealt : (actors : List Actor) (old new : Dealt) → Deals hands passes old new → new.told.items ≡ old.told.items → AreDealt terms room actors old → AreDealt terms room actors new
    starts_dealt actors old new deals same are = record {
      hands_are = hands_on old.hands.items new.hands.items hands deals.hands_are
          (λ i member hand here at. (seats.hands_are.each i (turns_of terms member) hand (turns_at i member here) at).journal_is) are.hands_are;
      passes_are = passes_on old.passes.items new.passes.items passes deals.passes_are seats.passes_are are.passes_are;
      told = same ∙ are.told;
      each = λ k actor at. dealt_on old new hands passes actor deals (are.each k actor at);
    }
