-- How files in memory count their faults.
use Rattle.std.proofs.Common.{◌≡◌, ℕ, suc, ◌+◌, ◌-◌, ◌^◌, ◌<◌, ◌≤◌, true, false, List, [], ◌∷◌, ◌++◌, length, take, drop, set, get_or, Option, Some, None, Result, Ok, Err, take-append-drop, refl, subst, sym, ◌∙◌, ap, arith, inl, inr, if◌then◌else◌}
use Rattle.std.specs.Prelude.{is_some, is_none, nat_lt, IsSome}
use Rattle.std.specs.Str.{bytes_eq}
use Rattle.std.specs.String.{string_bytes}
use Rattle.std.proofs.lemmas.Bool.{cases_Bool}
use Rattle.std.proofs.lemmas.List.{take-set, drop-set}
use Rattle.std.proofs.Math.Seq.{drop-cons}
use Rattle.std.proofs.lemmas.Slice.Eq.{bytes_eq-Decides}
use Rattle.std.proofs.Math.Path.{fun_ext}
use Rattle.outside_io.specs.declared.memory.MemFile.{MemFile}
use Rattle.outside_io.specs.Faults.{Rose, HasCause, NoneFell, KeepsOthers}
use Rattle.outside_io.specs.Memory.{counted, held_in, lacked_in, missed_in, next_count, unheld_count, with_fault}

count_grows : (n : ℕ) → n ≤ next_count n
count_grows n = elim (cases_Bool (nat_lt n (2 ^ 64 - 1))) [
  | inl is ↦ rw is (omega arith)
  | inr is ↦ rw is (omega arith)
]

pub count_rises : (n : ℕ) → Rose n (next_count n)
count_rises n = grind arith

pub has_cause : {T E : Type 0} (n m : ℕ) (result : Result T E) → m ≡ next_count n → HasCause n m result
has_cause n m (Ok x) is = record { later = omega (arith, count_grows n, is); failed = tt }
has_cause n m (Err e) is = record { later = omega (arith, count_grows n, is); failed = omega (arith, count_rises n, is) }

-- the first file, by whether it has the name
module _ (file : MemFile) (files : List MemFile) (name : List ℕ) where
  fault_here : bytes_eq (string_bytes file.name) name ≡ true → with_fault name (file ∷ files) ≡ counted file ∷ files
  fault_here is = rw is refl

  fault_later : bytes_eq (string_bytes file.name) name ≡ false → with_fault name (file ∷ files) ≡ file ∷ with_fault name files
  fault_later is = rw is refl

  held_here : bytes_eq (string_bytes file.name) name ≡ true → held_in (file ∷ files) name ≡ Some file.bytes.items
  held_here is = rw is refl

  held_later : bytes_eq (string_bytes file.name) name ≡ false → held_in (file ∷ files) name ≡ held_in files name
  held_later is = rw is refl

  missed_here : (n : ℕ) → bytes_eq (string_bytes file.name) name ≡ true → missed_in (file ∷ files) n name ≡ file.faults
  missed_here n is = rw is refl

  missed_later : (n : ℕ) → bytes_eq (string_bytes file.name) name ≡ false → missed_in (file ∷ files) n name ≡ missed_in files n name
  missed_later n is = rw is refl

counted_test : (file : MemFile) (name : List ℕ) → bytes_eq (string_bytes (counted file).name) name ≡ bytes_eq (string_bytes file.name) name
counted_test file name = refl

held_same : (files : List MemFile) (name other : List ℕ) → held_in (with_fault name files) other ≡ held_in files other
held_same [] name other = refl
held_same (file ∷ files) name other = elim (cases_Bool (bytes_eq (string_bytes file.name) name)) [
  | inl is ↦ ap (λ (l : List MemFile). held_in l other) (fault_here file files name is)
  | inr is ↦
      ap (λ (l : List MemFile). held_in l other) (fault_later file files name is)
      ∙ ap (λ (r : Option (List ℕ)). if bytes_eq (string_bytes file.name) other then Some file.bytes.items else r) (held_same files name other)
]

pub held_kept : (files : List MemFile) (name : List ℕ) → held_in (with_fault name files) ≡ held_in files
held_kept files name = fun_ext (λ other. held_same files name other)

pub lacked_kept : (files : List MemFile) (name : List ℕ) → lacked_in (with_fault name files) ≡ lacked_in files
lacked_kept files name = fun_ext (λ other. ap (λ (held : Option (List ℕ)). is_none held) (held_same files name other))

-- the count under the name itself
pub missed_more : (files : List MemFile) (n : ℕ) (name : List ℕ) → missed_in (with_fault name files) (unheld_count (held_in files name) n) name ≡ next_count (missed_in files n name)
missed_more [] n name = refl
missed_more (file ∷ files) n name = elim (cases_Bool (bytes_eq (string_bytes file.name) name)) [
  | inl is ↦
      ap (λ (l : List MemFile). missed_in l (unheld_count (held_in (file ∷ files) name) n) name) (fault_here file files name is)
      ∙ missed_here (counted file) files name (unheld_count (held_in (file ∷ files) name) n) is
      ∙ ap next_count (sym (missed_here file files name n is))
  | inr is ↦
      ap (λ (l : List MemFile). missed_in l (unheld_count (held_in (file ∷ files) name) n) name) (fault_later file files name is)
      ∙ missed_later file (with_fault name files) name (unheld_count (held_in (file ∷ files) name) n) is
      ∙ ap (λ (h : Option (List ℕ)). missed_in (with_fault name files) (unheld_count h n) name) (held_later file files name is)
      ∙ missed_more files n name
      ∙ ap next_count (sym (missed_later file files name n is))
]

unheld_grows : (held : Option (List ℕ)) (n : ℕ) → n ≤ unheld_count held n
unheld_grows None n = count_grows n
unheld_grows (Some bytes) n = omega arith

elsewhere_grows : (files : List MemFile) (n m : ℕ) (other : List ℕ) → n ≤ m → missed_in files n other ≤ missed_in files m other
elsewhere_grows [] n m other more = more
elsewhere_grows (file ∷ files) n m other more = elim (cases_Bool (bytes_eq (string_bytes file.name) other)) [
  | inl is ↦ omega (arith, missed_here file files other n is, missed_here file files other m is)
  | inr is ↦ omega (arith, missed_later file files other n is, missed_later file files other m is, elsewhere_grows files n m other more)
]

-- behind a fault under a name, as the first file has that name or not
module _ (file : MemFile) (files : List MemFile) (name other : List ℕ) (m : ℕ) where
  behind_here : bytes_eq (string_bytes file.name) name ≡ true → missed_in (with_fault name (file ∷ files)) m other ≡ missed_in (counted file ∷ files) m other
  behind_here is = ap (λ (l : List MemFile). missed_in l m other) (fault_here file files name is)

  behind_later : bytes_eq (string_bytes file.name) name ≡ false → missed_in (with_fault name (file ∷ files)) m other ≡ missed_in (file ∷ with_fault name files) m other
  behind_later is = ap (λ (l : List MemFile). missed_in l m other) (fault_later file files name is)

fault_grows : (files : List MemFile) (n m : ℕ) (name other : List ℕ) → n ≤ m → missed_in files n other ≤ missed_in (with_fault name files) m other
fault_grows [] n m name other more = more
fault_grows (file ∷ files) n m name other more = elim (cases_Bool (bytes_eq (string_bytes file.name) name)) [
  | inl is ↦ elim (cases_Bool (bytes_eq (string_bytes file.name) other)) [
    | inl same ↦ omega (arith, behind_here file files name other m is, missed_here (counted file) files other m same, missed_here file files other n same, count_grows file.faults)
    | inr differs ↦ omega (arith, behind_here file files name other m is, missed_later (counted file) files other m differs, missed_later file files other n differs, elsewhere_grows files n m other more)
  ]
  | inr is ↦ elim (cases_Bool (bytes_eq (string_bytes file.name) other)) [
    | inl same ↦ omega (arith, behind_later file files name other m is, missed_here file (with_fault name files) other m same, missed_here file files other n same)
    | inr differs ↦ omega (arith, behind_later file files name other m is, missed_later file (with_fault name files) other m differs, missed_later file files other n differs, fault_grows files n m name other more)
  ]
]

pub none_fell : (files : List MemFile) (n : ℕ) (name : List ℕ) → NoneFell (missed_in files n) (missed_in (with_fault name files) (unheld_count (held_in files name) n))
none_fell files n name other = fault_grows files n (unheld_count (held_in files name) n) name other (unheld_grows (held_in files name) n)

-- a held file's own count doesn't depend on the count of names that aren't held
told_stays : (files : List MemFile) (n m : ℕ) (other : List ℕ) → IsSome (held_in files other) → missed_in files m other ≡ missed_in files n other
told_stays [] n m other told = cc
told_stays (file ∷ files) n m other told = elim (cases_Bool (bytes_eq (string_bytes file.name) other)) [
  | inl is ↦ missed_here file files other m is ∙ sym (missed_here file files other n is)
  | inr is ↦
      missed_later file files other m is
      ∙ told_stays files n m other (ap (λ (h : Option (List ℕ)). is_some h) (sym (held_later file files other is)) ∙ told)
      ∙ sym (missed_later file files other n is)
]

pub others_stay : (files : List MemFile) (n m : ℕ) (name : List ℕ) → KeepsOthers (held_in files) name (missed_in files n) (missed_in (with_fault name files) m)
others_stay [] n m name other differs told = cc
others_stay (file ∷ files) n m name other differs told = elim (cases_Bool (bytes_eq (string_bytes file.name) other)) [
  | inl same ↦
      let apart : bytes_eq (string_bytes file.name) name ≡ false =
      elim (cases_Bool (bytes_eq (string_bytes file.name) name)) [
        | inl is ↦ absurd (differs (sym ((bytes_eq-Decides (string_bytes file.name) other).0 same) ∙ (bytes_eq-Decides (string_bytes file.name) name).0 is))
        | inr is ↦ is
      ] in
      behind_later file files name other m apart ∙ missed_here file (with_fault name files) other m same ∙ sym (missed_here file files other n same)
  | inr other_name ↦
      let later : IsSome (held_in files other) = ap (λ (h : Option (List ℕ)). is_some h) (sym (held_later file files other other_name)) ∙ told in
      elim (cases_Bool (bytes_eq (string_bytes file.name) name)) [
        | inl is ↦
            behind_here file files name other m is
            ∙ missed_later (counted file) files other m other_name
            ∙ told_stays files n m other later
            ∙ sym (missed_later file files other n other_name)
        | inr is ↦
            behind_later file files name other m is
            ∙ missed_later file (with_fault name files) other m other_name
            ∙ others_stay files n m name other differs later
            ∙ sym (missed_later file files other n other_name)
      ]
]

-- The file at this place is the first of the name.
pub fault_at : (files : List MemFile) (i : ℕ) (name : List ℕ) (file : MemFile) → i < length files → file ≡ get_or files i file → bytes_eq (string_bytes file.name) name ≡ true
    → take i files ++ with_fault name (drop i files) ≡ with_fault name files → set files i (counted file) ≡ with_fault name files
fault_at files i name file within is named split =
    let rest : drop i files ≡ file ∷ drop (suc i) files = drop-cons files i file within ∙ ap (λ (f : MemFile). f ∷ drop (suc i) files) (sym is) in
    let fault : with_fault name (drop i files) ≡ counted file ∷ drop (suc i) files = ap (with_fault name) rest ∙ fault_here file (drop (suc i) files) name named in
    let next : i + 1 ≡ suc i = omega arith in
    let later : drop i (set files i (counted file)) ≡ counted file ∷ drop (suc i) files =
    drop-set files i (counted file) within ∙ ap (λ (k : ℕ). counted file ∷ drop k files) next in
    sym (take-append-drop i (set files i (counted file)))
    ∙ ap (λ (l : List MemFile). l ++ drop i (set files i (counted file))) (take-set files i (counted file))
    ∙ ap (λ (l : List MemFile). take i files ++ l) (later ∙ sym fault)
    ∙ split

same_item : (files : List MemFile) (i : ℕ) (f g : MemFile) → i < length files → get_or files i f ≡ get_or files i g
same_item files i f g within =
    let one : get_or files i f ∷ drop (suc i) files ≡ get_or files i g ∷ drop (suc i) files = sym (drop-cons files i f within) ∙ drop-cons files i g within in
    cc

-- the same, as the code writes it
fault_written : (files : List MemFile) (i : ℕ) (name : List ℕ) (f g h : MemFile) (n : ℕ) → i < length files → bytes_eq (string_bytes (get_or files i f).name) name ≡ true
    → n ≡ next_count (get_or files i g).faults → take i files ++ with_fault name (drop i files) ≡ with_fault name files
    → set files i (record { name = (get_or files i h).name; bytes = (get_or files i h).bytes; faults = n }) ≡ with_fault name files
fault_written files i name f g h n within named more split =
    let one = same_item files i g h within in
    let other = same_item files i f h within in
    let file = get_or files i h in
    let count : n ≡ next_count file.faults = more ∙ ap (λ (m : MemFile). next_count m.faults) one in
    let is : file ≡ get_or files i file = same_item files i h file within in
    let has : bytes_eq (string_bytes file.name) name ≡ true = subst (λ (m : MemFile). bytes_eq (string_bytes m.name) name ≡ true) other named in
    ap (λ (k : ℕ). set files i (record { name = file.name; bytes = file.bytes; faults = k })) count ∙ fault_at files i name file within is has split

-- the same, where the files are those of before
pub fault_written_in : (files old : List MemFile) (i : ℕ) (name : List ℕ) (f g h : MemFile) (n : ℕ) → files ≡ old → i < length old
    → bytes_eq (string_bytes (get_or files i f).name) name ≡ true → n ≡ next_count (get_or files i g).faults → take i old ++ with_fault name (drop i old) ≡ with_fault name old
    → set files i (record { name = (get_or files i h).name; bytes = (get_or files i h).bytes; faults = n }) ≡ with_fault name old
fault_written_in files old i name f g h n same within named more split =
    let whole : set files i (record { name = (get_or files i h).name; bytes = (get_or files i h).bytes; faults = n }) ≡ with_fault name files =
    fault_written files i name f g h n (subst (λ (l : List MemFile). i < length l) (sym same) within) named more
    (subst (λ (l : List MemFile). take i l ++ with_fault name (drop i l) ≡ with_fault name l) (sym same) split) in
    whole ∙ ap (λ (l : List MemFile). with_fault name l) same
