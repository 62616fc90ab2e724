-- The nets of an exporter stay of its family.
use Rattle.std.proofs.Common.{◌≡◌, ℕ, Bool, true, false, ◌⊎◌, List, [], Option, Some, None, refl, inl, inr, sym, ◌∙◌, ap, subst, is_some, option_map}
use Rattle.bits_ip.specs.Prefix.{same_net}
use Rattle.attrs.specs.declared.route.Row.{Row}
use Rattle.std.specs.Prelude.{not, ◌==◌, ◌||◌, ◌∷◌, ◌&&◌, IsSome, if◌then◌else◌, nat_lt}
use Rattle.export_core.specs.declared.passing.ExportSpec.{ExportSpec}
use Rattle.export_core.specs.Candidates.{among, candidate_of, first_of, has_num, heeds, key_of_entry}
use Rattle.bits_ip.specs.Address.{family_of}
use Rattle.export_core.specs.Keys.{same_key}
use Rattle.export_core.specs.declared.log.Key.{Key}
use Rattle.attrs.specs.declared.journal.Chunk.{Chunk}
use Rattle.attrs.specs.declared.journal.JEntry.{JEntry}
use Rattle.attrs.specs.declared.route.Route.{Route}
use Rattle.export_core.specs.declared.marks.Mark.{Mark}
use Rattle.export_core.specs.Calls.{MarksAbove, mark_of}
use Rattle.export_core.specs.Candidates.{AddsNone, best_in, covers, floor_of}
use Rattle.export_core.specs.Families.{AreOfFamily, IsKeyOf}
use Rattle.export_core.specs.Marks.{Listed, at, find, joined, with_candidate}
use Rattle.export_core.specs.declared.log.LogItem.{LogItem}
use Rattle.export_core.specs.Standing.{IsKept, index_at, standing_at, value_at}
use Rattle.export_core.proofs.Keys.{key_tells, skip_if}
use Rattle.export_core.proofs.Taking.{other_if}

false_true : false ≡ true → ⊥
false_true e = cc

some_same : {X : Type 0} {o p : Option X} → o ≡ p → IsSome o → IsSome p
some_same e i = ap (λ o. is_some o) (sym e) ∙ i

pub families_none : (spec : ExportSpec) → AreOfFamily spec [] []
families_none spec = record { marked = λ k i. absurd (false_true i); stands = λ k i. absurd (false_true i) }

-- where marks and values are at the same nets
pub families_same : (spec : ExportSpec) (marks marks' : Listed) (sent sent' : List (Key × Option ℕ)) → AreOfFamily spec marks sent → ((q : Key) → find q marks' ≡ find q marks) → ((q : Key) → index_at q sent' ≡ index_at q sent) → AreOfFamily spec marks' sent'
families_same spec marks marks' sent sent' f same kept = record { marked = λ k i. f.marked k (some_same (same k) i); stands = λ k i. f.stands k (some_same (kept k) i) }

-- a take
pub families_take : (spec : ExportSpec) (reached pos : ℕ) (entry : JEntry) (marks marks' : Listed) (sent : List (Key × Option ℕ)) → AreOfFamily spec marks sent → MarksAbove spec reached pos entry marks marks' → (heeds spec entry.num ≡ true → IsKeyOf spec (key_of_entry spec entry)) → AreOfFamily spec marks' sent
families_take spec reached pos entry marks marks' sent f m is = record {
  marked = λ k i. elim (key_tells (key_of_entry spec entry) k) [
    | inl w ↦ elim (heeds spec entry.num) as (λ b. heeds spec entry.num ≡ b → IsKeyOf spec k) [
      | true ↦ λ heed. subst (λ n. IsKeyOf spec n) w.1 (is heed)
      | false ↦ λ steady. f.marked k (some_same (m k ∙ other_if (same_key (key_of_entry spec entry) k) (nat_lt reached pos) (heeds spec entry.num) (Some (joined (find k marks) (mark_of spec pos entry))) (find k marks) (λ _ z. false_true (sym steady ∙ z))) i)
    ] refl
    | inr w ↦ f.marked k (some_same (m k ∙ other_if (same_key (key_of_entry spec entry) k) (nat_lt reached pos) (heeds spec entry.num) (Some (joined (find k marks) (mark_of spec pos entry))) (find k marks) (λ z _. false_true (sym w.0 ∙ z))) i)
  ];
  stands = f.stands;
}

-- a push
gone : {X : Type 0} (b : Bool) (o : Option X) → IsSome (if b then None else o) → IsSome o
gone true o i = absurd (false_true i)
gone false o i = i

pub families_pop : (spec : ExportSpec) (k : Key) (marks marks' : Listed) (sent : List (Key × Option ℕ)) → AreOfFamily spec marks sent → ((q : Key) → find q marks' ≡ (if same_key k q then None else find q marks)) → AreOfFamily spec marks' sent
families_pop spec k marks marks' sent f popped = record { marked = λ q i. f.marked q (gone (same_key k q) (find q marks) (some_same (popped q) i)); stands = f.stands }

pub families_send : (spec : ExportSpec) (k : Key) (marks marks' : Listed) (sent mid sent' : List (Key × Option ℕ)) (number : Option ℕ) → AreOfFamily spec marks sent → IsSome (find k marks) → ((q : Key) → find q marks' ≡ (if same_key k q then None else find q marks)) → ((q : Key) → index_at q mid ≡ index_at q sent)
    → ((q : Key) → index_at q sent' ≡ (if same_key k q then number else index_at q mid)) → AreOfFamily spec marks' sent'
families_send spec k marks marks' sent mid sent' number f there popped same set = record {
  marked = λ q i. f.marked q (gone (same_key k q) (find q marks) (some_same (popped q) i));
  stands = λ q i. elim (key_tells k q) [
    | inl w ↦ subst (λ n. IsKeyOf spec n) w.1 (f.marked k there)
    | inr w ↦ f.stands q (some_same (skip_if _ (set q) w.0 ∙ same q) i)
  ];
}

-- a chunk
added : (b : Bool) (o : Option (Option Route)) → IsSome (if is_some o then o else (if b then Some None else None)) → IsSome o ⊎ (b ≡ true)
added b (Some x) i = inl refl
added true None i = inr refl
added false None i = absurd (false_true i)

second : (a b : Bool) → (a && b) ≡ true → b ≡ true
second true b e = e
second false b e = absurd (false_true e)

some_map : (o : Option Route) → IsSome (option_map (λ r. Some r) o) → IsSome o
some_map None i = i
some_map (Some r) i = refl

given : (pos : ℕ) (due : Bool) (c : Option (Option Route)) (o : Option Mark) → IsSome (with_candidate pos due c o) → IsSome c ⊎ IsSome o
given pos due None o i = inr i
given pos due (Some c) o i = inl refl

-- a heeded entry's key is the channel's
pub entry_key : (spec : ExportSpec) (entry : JEntry) → family_of entry.net.addr ≡ spec.family → heeds spec entry.num ≡ true → IsKeyOf spec (key_of_entry spec entry)
entry_key spec entry family heed = record { family = family; num = by_kind spec.every heed } where
  by_kind : (b : Bool) → (not b || among entry.num spec.sources) ≡ true → (if b then among (if b then entry.num else 0) spec.sources else (if b then entry.num else 0) == 0) ≡ true
  by_kind true e = e
  by_kind false e = refl

candidate_num : (b : Bool) (o : Option Route) → IsSome (if b then o else None) → b ≡ true
candidate_num true o i = refl
candidate_num false o i = absurd (false_true i)

first_some : (o p : Option Route) → IsSome (first_of o p) → IsSome o ⊎ IsSome p
first_some None p i = inr i
first_some (Some r) p i = inl refl

-- so is a key that rows tell a candidate of
pub told_num : (spec : ExportSpec) (k : Key) (rows : List Row) → IsSome (best_in spec k rows) → has_num spec k.num ≡ true
told_num spec k [] i = absurd (false_true i)
told_num spec k (row ∷ rows) i = by_row (same_net k.net row.net) (told_num spec k rows) i where
  by_row : (b : Bool) → (IsSome (best_in spec k rows) → has_num spec k.num ≡ true) → IsSome (if b then first_of (candidate_of spec k.num row.routes) (best_in spec k rows) else best_in spec k rows) → has_num spec k.num ≡ true
  by_row false rest i = rest i
  by_row true rest i = elim (first_some (candidate_of spec k.num row.routes) (best_in spec k rows) i) [ inl a ↦ candidate_num (has_num spec k.num) _ a | inr b ↦ rest b ]

pub families_fed : (spec : ExportSpec) (chunk : Chunk) (pos : ℕ) (due : Bool) (marks marks' : Listed) (sent : List (Key × Option ℕ)) (rows with_marks with_sent : List (Key × Option Route)) → AreOfFamily spec marks sent
    → ((k : Key) → at k rows ≡ option_map (λ r. Some r) (best_in spec k chunk.rows)) → AddsNone (λ k. covers (floor_of chunk) k && is_some (find k marks)) rows with_marks → AddsNone (λ k. covers (floor_of chunk) k && is_some (index_at k sent)) with_marks with_sent
    → ((q : Key) → find q marks' ≡ with_candidate pos due (at q with_sent) (find q marks)) → ((k : Key) → IsSome (best_in spec k chunk.rows) → IsKeyOf spec k) → AreOfFamily spec marks' sent
families_fed spec chunk pos due marks marks' sent rows with_marks with_sent f rows_are marks_are sent_are all told = record {
  marked = λ k i. elim (given pos due (at k with_sent) (find k marks) (some_same (all k) i)) [
    | inl c ↦ elim (added (covers (floor_of chunk) k && is_some (index_at k sent)) (at k with_marks) (some_same (sent_are k) c)) [
      | inl m ↦ elim (added (covers (floor_of chunk) k && is_some (find k marks)) (at k rows) (some_same (marks_are k) m)) [
        | inl r ↦ told k (some_map (best_in spec k chunk.rows) (some_same (rows_are k) r))
        | inr t ↦ f.marked k (second (covers (floor_of chunk) k) (is_some (find k marks)) t)
      ]
      | inr t ↦ f.stands k (second (covers (floor_of chunk) k) (is_some (index_at k sent)) t)
    ]
    | inr o ↦ f.marked k o
  ];
  stands = f.stands;
}

-- fewer values stand
pub families_less : (spec : ExportSpec) (marks : Listed) (sent sent' : List (Key × Option ℕ)) → AreOfFamily spec marks sent → ((k : Key) (n : ℕ) → index_at k sent' ≡ Some n → index_at k sent ≡ Some n) → AreOfFamily spec marks sent'
families_less spec marks sent sent' f fewer = record { marked = f.marked; stands = λ k i. f.stands k (by_number k (index_at k sent') refl i) } where
  by_number : (k : Key) (o : Option ℕ) → index_at k sent' ≡ o → IsSome o → IsSome (index_at k sent)
  by_number k None e i = absurd (false_true i)
  by_number k (Some n) e i = ap (λ o. is_some o) (fewer k n e)

-- ---- what the exporter tells of its keys

pub marks_family : (spec : ExportSpec) (marks : Listed) (sent : List (Key × Option ℕ)) → AreOfFamily spec marks sent → (k : Key) → IsSome (find k marks) → family_of k.net.addr ≡ spec.family
marks_family spec marks sent f k some = (f.marked k some).family

-- what stands has a place with a number
number_there : (log : List LogItem) (o : Option ℕ) → IsSome (value_at log o) → IsSome o
number_there log None some = some
number_there log (Some n) some = refl

pub standing_family : (spec : ExportSpec) (marks : Listed) (flushing up : Bool) (sent : List (Key × Option ℕ)) (log : List LogItem) → IsKept flushing up sent log → AreOfFamily spec marks sent → flushing ≡ false → (k : Key) → IsSome (standing_at k log) → family_of k.net.addr ≡ spec.family
standing_family spec marks flushing up sent log kept f steady k some =
    (f.stands k (number_there log (index_at k sent) (some_same (sym (kept.values steady k)) some))).family
