-- Turns of loops over protocols: how many channels they have, and what stands of them first.
use Rattle.std.proofs.Common.{◌≡◌, ℕ, suc, ◌+◌, ◌<◌, ◌≤◌, ◌^◌, All, List, [], ◌∷◌, ◌++◌, Option, Some, None, get_or, refl, sym, ◌∙◌, ap, subst, arith, length, take}
use Rattle.std.specs.Prelude.{option_map, slice_get}
use Rattle.std.proofs.lemmas.Option.{slice_get-get_or, slice_get-map}
use Rattle.attrs.specs.declared.judge.Verdict.{Verdict}
use Rattle.attrs.specs.declared.route.Route.{Route}
use Rattle.bits_ip.specs.Prefix.{Net}
use Rattle.bits_ip.specs.declared.address.Family.{Family}
use Rattle.core_setup.specs.Channels.{channels_in, session}
use Rattle.core_setup.specs.Setup.{FitsBody, IsSetup}
use Rattle.core_setup.proofs.Numbered.{protocol_is}
use Rattle.core_setup.proofs.PairLemmas.{length_front, take_one_more}
use Rattle.phase_answers.specs.declared.lent.Lent.{Lent}
use Rattle.room_open.specs.declared.standing.StandingMember.{StandingMember}
use Rattle.show_route.specs.declared.query.Query.{Query}
use Rattle.sys_run.specs.Parts.{body_seen, exports_seen, protocol_seen, setup_seen}
use Rattle.sys_run.specs.declared.parts.BodyParts.{BodyParts}
use Rattle.sys_run.specs.declared.parts.BodyParts.TheVariants as bodies
use Rattle.sys_run.specs.declared.parts.ExportParts.{ExportParts}
use Rattle.sys_run.specs.declared.parts.ProtocolParts.{ProtocolParts}
use Rattle.sys_run.specs.declared.parts.TableParts.{TableParts}
use Rattle.room_first.specs.Inside.{AreFirst, HasFewTables, IsFirstProtocol, own_channels, sessions_in}

-- what holds of all holds of an item that a loop over a slice reads
pub item_is : {X : Type 0} (P : X → Type 0) (xs : List X) (k : ℕ) (x : X) → k < length xs → x ≡ get_or xs k x → All P xs → P x
item_is P xs k x w e all = subst P (sym e) (all k x w)

-- ---- channels

sessions_most : {J : Type 0} (o : Option (ExportParts J)) → sessions_in o ≤ 2
sessions_most None = omega arith
sessions_most (Some exports) = omega arith

pub two_most : {J : Type 0} (body : BodyParts J) → own_channels body ≤ 2
two_most (bodies.Source p) = sessions_most p.exports
two_most (bodies.Pipe p) = omega arith

module _ {J : Type 0} (verdict : J → Net → Route → Verdict) (tables : List (List ℕ × Family)) where
  session_counts : (n table : ℕ) (name : List ℕ) (o : Option (ExportParts J)) → length (session tables n name table (option_map (exports_seen verdict) o)) ≡ sessions_in o
  session_counts n table name None = refl
  session_counts n table name (Some exports) = refl

  pub body_counts : (n : ℕ) (name : List ℕ) (body : BodyParts J) → length (channels_in tables n name (body_seen verdict body)) ≡ own_channels body
  body_counts n name (bodies.Source p) = session_counts n p.table name p.exports
  body_counts n name (bodies.Pipe p) = refl

module _ {J : Type 0} where
  -- the number that the next channel has, behind these protocols
  abbrev pub behind : ℕ → List (ProtocolParts J) → ℕ
  behind n [] = n
  behind n (p ∷ ps) = behind (n + own_channels p.body) ps

  behind_more : (n : ℕ) (ps : List (ProtocolParts J)) (p : ProtocolParts J) → behind n (ps ++ p ∷ []) ≡ behind n ps + own_channels p.body
  behind_more n [] p = refl
  behind_more n (q ∷ ps) p = behind_more (n + own_channels q.body) ps p

  pub behind_turn : (xs : List (ProtocolParts J)) (k n : ℕ) (x : ProtocolParts J) → slice_get xs k ≡ Some x → n ≡ behind 0 (take k xs) → n + own_channels x.body ≡ behind 0 (take (k + 1) xs)
  behind_turn xs k n x e was =
      ap (λ m. m + own_channels x.body) was ∙ sym (behind_more 0 (take k xs) x) ∙ sym (ap (behind 0) (take_one_more xs k x e))

-- ---- what stands

module _ {J : Type 0} (verdict : J → Net → Route → Verdict) (tables : List (List ℕ × Family)) (passed : ℕ → List ℕ) where
  first_more : (m n : ℕ) (ps : List (ProtocolParts J)) (ss : List (StandingMember (Lent J))) (p : ProtocolParts J) (s : StandingMember (Lent J))
      → AreFirst verdict tables passed m n ps ss → IsFirstProtocol verdict tables passed (m + length ps) (behind n ps) p.body s
      → AreFirst verdict tables passed m n (ps ++ p ∷ []) (ss ++ s ∷ [])
  first_more m n [] [] p s are is = (subst (λ k. IsFirstProtocol verdict tables passed k n p.body s) (let e : m + 0 ≡ m = omega arith in e) is, tt)
  first_more m n [] (x ∷ ss) p s are is = absurd are
  first_more m n (q ∷ ps) [] p s are is = absurd are
  first_more m n (q ∷ ps) (x ∷ ss) p s are is = (
    are.0,
    first_more (m + 1) (n + own_channels q.body) ps ss p s are.1
        (subst (λ k. IsFirstProtocol verdict tables passed k (behind (n + own_channels q.body) ps) p.body s) (let e : m + suc (length ps) ≡ m + 1 + length ps = omega arith in e) is),
  )

  pub first_turn : (xs : List (ProtocolParts J)) (k number channel : ℕ) (x : ProtocolParts J) (old new : List (StandingMember (Lent J))) (s : StandingMember (Lent J))
      → slice_get xs k ≡ Some x → new ≡ old ++ s ∷ [] → number ≡ k → channel ≡ behind 0 (take k xs)
      → AreFirst verdict tables passed 0 0 (take k xs) old → IsFirstProtocol verdict tables passed number channel x.body s
      → AreFirst verdict tables passed 0 0 (take (k + 1) xs) new
  first_turn xs k number channel x old new s e more at was are is =
      subst (λ (l : List (StandingMember (Lent J))). AreFirst verdict tables passed 0 0 (take (k + 1) xs) l) (sym more)
      (subst (λ (l : List (ProtocolParts J)). AreFirst verdict tables passed 0 0 l (old ++ s ∷ [])) (sym (take_one_more xs k x e))
      (first_more 0 0 (take k xs) old x s are
      (subst (λ n. IsFirstProtocol verdict tables passed n (behind 0 (take k xs)) x.body s) (at ∙ sym (length_front xs k x e))
      (subst (λ n. IsFirstProtocol verdict tables passed number n x.body s) was is))))

-- ---- the numbers of tables are few

module _ {J : Type 0} (verdict : J → Net → Route → Verdict) where
  few_tables : (tables : List (List ℕ × Family)) (number : ℕ) (b : BodyParts J) → length tables < 2 ^ 32 → FitsBody tables number (body_seen verdict b) → HasFewTables b
  few_tables tables number (bodies.Source p) w fits = let inside = fits.table in omega (arith, w, inside)
  few_tables tables number (bodies.Pipe p) w fits =
      let here = fits.primary in
      let there = fits.peer in
      (omega (arith, w, here), omega (arith, w, there))

  pub all_few : (tables : List TableParts) (protocols : List (ProtocolParts J)) (cells : ℕ) (choices : List J) (queries : List Query)
      → length (setup_seen verdict tables protocols cells choices queries).tables < 2 ^ 32 → IsSetup (setup_seen verdict tables protocols cells choices queries)
      → All (λ (p : ProtocolParts J). HasFewTables p.body) protocols
  all_few tables protocols cells choices queries w fits k d less =
      let seen = setup_seen verdict tables protocols cells choices queries in
      let p = get_or protocols k d in
      few_tables seen.tables k p.body w
      (protocol_is seen k (protocol_seen verdict p) fits
      (slice_get-map (protocol_seen verdict) protocols k ∙ ap (option_map (protocol_seen verdict)) (slice_get-get_or protocols k d less)))
