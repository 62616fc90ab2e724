-- What loops of a report say so far, and where a phase began.
use Rattle.std.proofs.Common.{◌≡◌, ℕ, zero, suc, ◌+◌, ◌<◌, ◌≤◌, Bool, true, false, List, [], ◌∷◌, ◌++◌, length, map, set, drop, Some, refl, sym, ap, ◌∙◌, append_assoc, arith}
use Rattle.std.specs.Prelude.{slice_get, option_map, if◌then◌else◌}
use Rattle.std.specs.List.{AllByRecursion}
use Rattle.std.specs.declared.alloc.Global.{Global}
use Rattle.std.specs.declared.vec.Vec.{Vec}
use Rattle.std.proofs.lemmas.List.{append-nil, length-map, length-reverse}
use Rattle.std.proofs.lemmas.Option.{none-some, same_Some, slice_get-map}
use Rattle.bits_ip.specs.Prefix.{Net}
use Rattle.attrs.specs.declared.judge.Verdict.{Verdict}
use Rattle.attrs.specs.declared.route.Route.{Route}
use Rattle.export_core.specs.Histories.{change_of}
use Rattle.export_core.specs.declared.log.LogItem.{LogItem}
use Rattle.core_machine.specs.Machine.{State}
use Rattle.core_setup.specs.Channels as setups
use Rattle.core_setup.specs.Pairs.{Pairs}
use Rattle.core_setup.specs.Setup.{Setup}
use Rattle.core_setup.proofs.PairLemmas.{get_one, get_within, other_here, pairs_all, pairs_length, set_here, weaker_here}
use Rattle.run_tables.proofs.Routing.{ChannelIs, TableIs}
use Rattle.run_tables.specs.declared.channel.Channel.{Channel}
use Rattle.run_tables.specs.declared.table.Table.{Table}
use Rattle.sys_run.specs.Phase.{IsEmptied, logged_in, reply_of, told}
use Rattle.sys_run.specs.declared.parts.TableParts.{TableParts}
use Rattle.sys_run.specs.declared.player.Answered.{Answered}
use Rattle.sys_run.specs.declared.protocol.Protocol.{Protocol}

-- the operations of the first protocols are forgotten
pub record IsEmptiedTo {J : Type 0} (n j : ℕ) (held new : Protocol J) : Type 0 where
  pub body : new.body ≡ held.body
  pub from_is : new.from ≡ held.from
  pub upto_is : new.upto ≡ held.upto
  pub done : j < n → new.done.items ≡ []
  pub rest : n ≤ j → new.done.items ≡ held.done.items

module _ {J : Type 0} where
  pub emptied_none : (xs : List (Protocol J)) → Pairs (IsEmptiedTo 0) 0 xs xs
  emptied_none xs = pairs_all (IsEmptiedTo 0) xs xs refl (λ j x y ex ey. same j x y (get_one xs j x y ex ey)) where
    same : (j : ℕ) (x y : Protocol J) → x ≡ y → IsEmptiedTo 0 j x y
    same j x y e = record {
      body = ap (λ (i : Protocol J). i.body) (sym e);
      from_is = ap (λ (i : Protocol J). i.from) (sym e);
      upto_is = ap (λ (i : Protocol J). i.upto) (sym e);
      done = λ w. absurd (omega (arith, w));
      rest = λ w. ap (λ (i : Protocol J). i.done.items) (sym e);
    }

  pub emptied_more : (n : ℕ) (old now : List (Protocol J)) (held after : Protocol J) → slice_get now n ≡ Some held → after.body ≡ held.body → after.from ≡ held.from → after.upto ≡ held.upto → after.done.items ≡ []
      → Pairs (IsEmptiedTo n) 0 old now → Pairs (IsEmptiedTo (n + 1)) 0 old (set now n after)
  emptied_more n old now held after e body first upto none ps = set_here (IsEmptiedTo n) (IsEmptiedTo (n + 1)) old now n after
      (λ j x y apart _ _ is. record { body = is.body; from_is = is.from_is; upto_is = is.upto_is; done = λ w. is.done (less j apart w); rest = λ w. is.rest (omega (arith, w)) })
      (λ x y _ ey is. let same = get_one now n y held ey e in record {
        body = body ∙ ap (λ (i : Protocol J). i.body) (sym same) ∙ is.body;
        from_is = first ∙ ap (λ (i : Protocol J). i.from) (sym same) ∙ is.from_is;
        upto_is = upto ∙ ap (λ (i : Protocol J). i.upto) (sym same) ∙ is.upto_is;
        done = λ w. none;
        rest = λ w. absurd (omega (arith, w));
      }) ps
    where
      less : (j : ℕ) → (j ≡ n → ⊥) → j < n + 1 → j < n
      less j apart w = grind arith

  pub emptied_all : (n : ℕ) (old now : List (Protocol J)) → length old ≤ n → Pairs (IsEmptiedTo n) 0 old now → Pairs IsEmptied 0 old now
  emptied_all n old now w ps = weaker_here (IsEmptiedTo n) IsEmptied old now (λ j x y ex _ is. record {
    body = is.body;
    from_is = is.from_is;
    upto_is = is.upto_is;
    done = is.done (let lt = get_within old j x ex in omega (arith, lt, w));
  }) ps

-- ---- replies and values, one more at the end

pub map_push : {A B : Type 0} (f : A → B) (xs : List A) (x : A) → map f (xs ++ x ∷ []) ≡ map f xs ++ f x ∷ []
map_push f [] x = refl
map_push f (y ∷ xs) x = ap (λ l. f y ∷ l) (map_push f xs x)

pub told_none : (table : List TableParts) (actors : List (List ℕ)) → told table actors [] ≡ []
told_none table [] = refl
told_none table (a ∷ actors) = refl

pub told_more : (table : List TableParts) (actors : List (List ℕ)) (held : List (Vec Answered Global)) (last : Vec Answered Global) (actor : List ℕ) → slice_get actors (length held) ≡ Some actor
    → told table actors (held ++ last ∷ []) ≡ told table actors held ++ map (reply_of table actor) last.items
told_more table [] held last actor e = absurd (none-some actor e)
told_more table (a ∷ actors) [] last actor e =
    ap (λ l. map (reply_of table a) last.items ++ l) (told_none table actors) ∙ append-nil (map (reply_of table a) last.items) ∙ ap (λ n. map (reply_of table n) last.items) (same_Some a actor e)
told_more table (a ∷ actors) (h ∷ held) last actor e =
    ap (λ l. map (reply_of table a) h.items ++ l) (told_more table actors held last actor e) ∙ sym (append_assoc (map (reply_of table a) h.items) (told table actors held) (map (reply_of table actor) last.items))

-- what holds of all holds of each
pub one_among : {X : Type 0} (P : X → Type 0) (xs : List X) (x : X) (ys : List X) → AllByRecursion P (xs ++ x ∷ ys) → P x
one_among P [] x ys all = all.0
one_among P (y ∷ xs) x ys all = one_among P xs x ys all.1

-- ---- the back of a list

pub drop_map : {A B : Type 0} (f : A → B) (n : ℕ) (xs : List A) → map f (drop n xs) ≡ drop n (map f xs)
drop_map f zero xs = refl
drop_map f (suc n) [] = refl
drop_map f (suc n) (x ∷ xs) = drop_map f n xs

-- ---- where a phase began

pub heads_began : (setup : Setup) (s : State) (tables : List Table) (heads : List ℕ) → Pairs (TableIs setup s) 0 setup.tables tables → heads ≡ map (λ (table : Table). length table.entries.items) tables
    → Pairs (λ n table head. head ≡ length (s.history n)) 0 setup.tables heads
heads_began setup s tables heads are e =
    pairs_all (λ n table head. head ≡ length (s.history n)) setup.tables heads (pairs_length (TableIs setup s) 0 setup.tables tables are ∙ sym (ap length e ∙ length-map tables (λ (table : Table). length table.entries.items)))
    (λ j seen head es eh.
    let t = other_here (TableIs setup s) setup.tables tables are j seen es in
    let is : slice_get (map (λ (table : Table). length table.entries.items) tables) j ≡ Some (length t.0.entries.items) =
    slice_get-map (λ (table : Table). length table.entries.items) tables j ∙ ap (option_map (λ (table : Table). length table.entries.items)) t.1 in
    same_Some head (length t.0.entries.items) (sym eh ∙ ap (λ l. slice_get l j) e ∙ is)
    ∙ sym (length-map t.0.entries.items change_of) ∙ ap length t.2.entries ∙ length-reverse (s.history j))

length_unless : (first : Bool) (items : List LogItem) → (if first then 0 else length items) ≡ length (if first then [] else items)
length_unless true items = refl
length_unless false items = refl

module _ {J : Type 0} (verdict : J → Net → Route → Verdict) where
  pub logged_began : (setup : Setup) (s : State) (first : Bool) (channels : List (Channel J)) (logged : List ℕ) → Pairs (ChannelIs verdict setup s) 0 (setups.channels setup) channels
      → logged ≡ map (logged_in first) channels
      → Pairs (λ c channel len. len ≡ length (if first then [] else (s.channels c).log)) 0 (setups.channels setup) logged
  logged_began setup s first channels logged are e =
      pairs_all (λ c channel len. len ≡ length (if first then [] else (s.channels c).log)) (setups.channels setup) logged
      (pairs_length (ChannelIs verdict setup s) 0 (setups.channels setup) channels are ∙ sym (ap length e ∙ length-map channels (logged_in first)))
      (λ j seen len es el.
      let t = other_here (ChannelIs verdict setup s) (setups.channels setup) channels are j seen es in
      let is : slice_get (map (logged_in first) channels) j ≡ Some (logged_in first t.0) = slice_get-map (logged_in first) channels j ∙ ap (option_map (logged_in first)) t.1 in
      same_Some len (logged_in first t.0) (sym el ∙ ap (λ l. slice_get l j) e ∙ is)
      ∙ ap (λ (n : ℕ). if first then 0 else n) (sym (length-reverse t.0.exporter.log) ∙ ap length t.2.exporter.matches.like.resembles.log)
      ∙ length_unless first (s.channels j).log)
