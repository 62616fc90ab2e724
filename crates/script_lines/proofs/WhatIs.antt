-- Lines of a script name what there is.
use Rattle.std.proofs.Common.{◌≡◌, ◌∙◌, sym, ap, refl, subst, ℕ, zero, suc, ◌<◌, ◌≤◌, ◌^◌, Bool, true, false, cond, List, [], ◌∷◌, ◌++◌, length, length-append, arith, inl, inr, Option, Some, None}
use Rattle.std.specs.Prelude.{not, is_none, is_some, nat_le, nat_lt, ◌+◌, ◌&&◌, ◌||◌, IsTrue, unwrap_or, option_map, option_and_then, option_to_list, IfSome}
use Rattle.std.specs.List.{All, find, position, position_or_len, slice_get}
use Rattle.std.proofs.lemmas.Bool.{cases_Bool}
use Rattle.std.proofs.lemmas.Bool.Decides.{nat_tests}
use Rattle.std.proofs.lemmas.List.Elements.{All-nil, All-cons, All-head, All-tail}
use Rattle.std.proofs.lemmas.List.Folds.{find_at}
use Rattle.std.specs.Str.{bytes_eq}
use Rattle.bits_ip.specs.Address.{family_of}
use Rattle.bits_ip.specs.declared.address.Family.{Family}
use Rattle.bits_ip.specs.declared.address.Family.TheVariants as families
use Rattle.script_lines.specs.declared.named.Named.{Named}
use Rattle.script_lines.specs.declared.named.NamedProtocol.{NamedProtocol}
use Rattle.script_lines.specs.declared.named.ProtocolKind.{ProtocolKind}
use Rattle.script_lines.specs.declared.named.ProtocolKind.TheVariants as kinds
use Rattle.script_lines.specs.declared.faults.ScriptKind.{ScriptKind}
use Rattle.script_lines.specs.declared.faults.ScriptKind.TheVariants as why
use Rattle.attrs.specs.declared.route.Select.{Select}
use Rattle.text.specs.Lines.{behind_words, words_of}
use Rattle.queries.specs.Question.{Asked}
use Rattle.show_route.specs.declared.query.Query.{Query}
use Rattle.script_lines.specs.declared.script.Condition.{Condition}
use Rattle.script_lines.specs.declared.script.Line.{Line}
use Rattle.script_lines.specs.declared.script.Line.TheVariants as lines
use Rattle.script_lines.specs.Grammar.{Command, Open, Close, Add, Del, Disable, Enable, Reload, ReloadIn, ReloadOut, ShowRoute, Form, Sync, Take, Push, Says, HasForm}
use Rattle.script_lines.specs.Kinds.{place_of, channel_of, protocol_of, session_of, table_of, filter_of, export_table, is_table, is_called, is_bgp, is_bgp_of, is_session_of, is_some_of, is_of_family, lacks, asks_unknown, table_by, default_table, pick_family, has_wrong_actor, has_unknown_name, has_other_family, is_over_limit, is_barred_step, is_actor_too_many, least_kind}
use Rattle.script_lines.specs.Script.{AreForms, IsScript, NamesWhatIs, AsksWhatIs, HasTables, with_actor, actors_of, spoken, onto_first, with_line, phases_of, asked_in, condition_in, condition_at, conditions_of, choice_by, query_of, query_at, queries_of}
use Rattle.script_lines.proofs.LineParts.{least_fine, said_question}
use Rattle.script_lines.proofs.Places.{actors_stay, place_push}
use Rattle.script_lines.proofs.States.{condition_counts, query_counts}

none_some : {X : Type 0} (x : X) → None ≡ Some x → ⊥
none_some x same = cc

some_same : {X : Type 0} (x y : X) → Some x ≡ Some y → x ≡ y
some_same x y same = cc

true_false : true ≡ false → ⊥
true_false same = cc

-- what stands at the place of a position
record IsThere {X : Type 0} (p : X → Bool) (xs : List X) (i : ℕ) : Type 0 where
  below : i < length xs
  item : X
  item_is : slice_get xs i ≡ Some item
  found : find p xs ≡ Some item
  passes : p item ≡ true

found_passes : {X : Type 0} (p : X → Bool) (xs : List X) (x : X) → find p xs ≡ Some x → p x ≡ true
found_passes p [] x is = absurd (none_some x is)
found_passes p (y ∷ xs) x is = elim (cases_Bool (p y)) [
  | inl passes ↦
      let same : y ≡ x = some_same y x (sym (ap (λ (b : Bool). cond b (Some y) (find p xs)) passes) ∙ is) in
      sym (ap p same) ∙ passes
  | inr fails ↦ found_passes p xs x (sym (ap (λ (b : Bool). cond b (Some y) (find p xs)) fails) ∙ is)
]

get_below : {X : Type 0} (xs : List X) (i : ℕ) → i < length xs → (x : X) × (slice_get xs i ≡ Some x)
get_below [] i below = absurd (omega (arith, below))
get_below (x ∷ xs) zero below = (x, refl)
get_below (x ∷ xs) (suc i) below = get_below xs i (omega (arith, below))

cond_some : {X : Type 0} (b : Bool) (x y : X) → cond b (Some x) None ≡ Some y → (b ≡ true) × (x ≡ y)
cond_some true x y is = (refl, some_same x y is)
cond_some false x y is = absurd (none_some y is)

less_is : (a b : ℕ) → nat_lt a b ≡ true → a < b
less_is a b is = grind (arith, nat_tests)

there : {X : Type 0} (p : X → Bool) (xs : List X) (i : ℕ) → position p xs ≡ Some i → IsThere p xs i
there p xs i is =
    let parts = cond_some (nat_lt (position_or_len p xs) (length xs)) (position_or_len p xs) i is in
    let below : i < length xs = omega (arith, less_is _ _ parts.0, parts.1) in
    let at = get_below xs i below in
    let found = find_at p xs ∙ ap (slice_get xs) parts.1 ∙ at.1 in
    record { below = below; item = at.0; item_is = at.1; found = found; passes = found_passes p xs at.0 found }

placed : {X : Type 0} (p : X → Bool) (xs : List X) (place : Option ℕ) → position p xs ≡ place → is_none place ≡ false → IsThere p xs (unwrap_or place 0)
placed p xs (Some i) is some = there p xs i is
placed p xs None is some = absurd (true_false some)

-- who speaks has a number among those who have spoken
speaks_from : (actors : List (List ℕ)) (actor : List ℕ) (place : Option ℕ) → place_of actors actor ≡ place
    → unwrap_or (place_of (cond (is_some place) actors (actors ++ actor ∷ [])) actor) 0 < length (cond (is_some place) actors (actors ++ actor ∷ []))
speaks_from actors actor (Some n) is =
    let number : unwrap_or (place_of actors actor) 0 ≡ n = ap (λ (o : Option ℕ). unwrap_or o 0) is in
    let at = there (λ other. bytes_eq other actor) actors n is in
    omega (arith, number, at.below)
speaks_from actors actor None is =
    let number : unwrap_or (place_of (actors ++ actor ∷ []) actor) 0 ≡ length actors = ap (λ (o : Option ℕ). unwrap_or o 0) (place_push actors actor (sym is)) in
    omega (arith, number, length-append actors (actor ∷ []))

speaks : (actors : List (List ℕ)) (actor : List ℕ) (command : Command)
    → unwrap_or (place_of (with_actor actors (Says actor command)) actor) 0 < length (with_actor actors (Says actor command))
speaks actors actor command = speaks_from actors actor (place_of actors actor) refl

grown_by : (actors : List (List ℕ)) (actor : List ℕ) (b : Bool) → length actors ≤ length (cond b actors (actors ++ actor ∷ []))
grown_by actors actor true = omega arith
grown_by actors actor false = omega (arith, length-append actors (actor ∷ []))

grown_one : (actors : List (List ℕ)) (form : Form) → length actors ≤ length (with_actor actors form)
grown_one actors Sync = omega arith
grown_one actors (Take channel count) = omega arith
grown_one actors (Push channel count) = omega arith
grown_one actors (Says actor command) = grown_by actors actor (is_some (place_of actors actor))

grown : (actors : List (List ℕ)) (forms : List (ℕ × Form)) → length actors ≤ length (actors_of actors forms)
grown actors [] = omega arith
grown actors (said ∷ forms) = omega (arith, grown_one actors said.1, grown (with_actor actors said.1) forms)

-- no kind applies
chain : Bool → Bool → Bool → Bool → Bool → Bool → Option ScriptKind
chain a b c d e f =
    cond a (Some why.UnknownActor) (cond b (Some why.UnknownName) (cond c (Some why.Nettype) (cond d (Some why.AttrLimit) (cond e (Some why.ScheduleInRun) (cond f (Some why.Actors) None)))))

chain_none : (a b c d e f : Bool) → chain a b c d e f ≡ None → (a ≡ false) × (b ≡ false) × (c ≡ false) × (d ≡ false)
unfolding chain
chain_none true b c d e f is = absurd (none_some _ (sym is))
chain_none false true c d e f is = absurd (none_some _ (sym is))
chain_none false false true d e f is = absurd (none_some _ (sym is))
chain_none false false false true e f is = absurd (none_some _ (sym is))
chain_none false false false false e f is = (refl, refl, refl, refl)

all_fine : (named : Named) (actors : List (List ℕ)) (form : Form) → least_kind named actors form ≡ None
    → (has_wrong_actor named form ≡ false) × (has_unknown_name named form ≡ false) × (has_other_family named form ≡ false) × (is_over_limit form ≡ false)
unfolding chain
all_fine named actors form is =
    chain_none (has_wrong_actor named form) (has_unknown_name named form) (has_other_family named form) (is_over_limit form) (is_barred_step named form) (is_actor_too_many actors form) is

not_false : (b : Bool) → not b ≡ false → b ≡ true
not_false true is = refl
not_false false is = absurd (true_false is)

second_true : (a b : Bool) → (a && b) ≡ true → b ≡ true
second_true true b is = is
second_true false b is = absurd (true_false (sym is))

first_true : (a b : Bool) → (a && b) ≡ true → a ≡ true
first_true true b is = refl
first_true false b is = absurd (true_false (sym is))

few_bits : (n : ℕ) → nat_le n 4294967295 ≡ true → n < 2 ^ 32
few_bits n is = grind (arith, nat_tests)

same_family : (place : Option ℕ) (b : Bool) → is_none place ≡ false → (is_some place && not b) ≡ false → b ≡ true
same_family (Some n) b some is = not_false b is
same_family None b some is = absurd (true_false some)

family_is : (family : Family) (kind : ProtocolKind) → is_bgp_of family kind ≡ true → kind ≡ kinds.Bgp family
family_is families.V4 (kinds.Bgp families.V4) is = refl
family_is families.V6 (kinds.Bgp families.V6) is = refl
family_is families.V4 (kinds.Bgp families.V6) is = absurd (true_false (sym is))
family_is families.V6 (kinds.Bgp families.V4) is = absurd (true_false (sym is))
family_is family (kinds.Static other) is = absurd (true_false (sym is))
family_is family kinds.Pipe is = absurd (true_false (sym is))

kind_is : (named : Named) (actor : List ℕ) (family : Family) (protocol : NamedProtocol) → find (is_session_of actor) named.protocols ≡ Some protocol → is_of_family named actor family ≡ true
    → protocol.kind ≡ kinds.Bgp family
kind_is named actor family protocol found is = family_is family protocol.kind (sym (ap (is_some_of family) found) ∙ is)

-- how many queries a line makes, and lines
abbrev asks_one : Form → ℕ
asks_one form = length (option_to_list (asked_in form))

abbrev asks : List (ℕ × Form) → ℕ
asks [] = 0
asks (said ∷ forms) = asks_one said.1 + asks forms

-- what an actor says
spoken_names : (named : Named) (total now : List (List ℕ)) (queries asked number : ℕ) (actor : List ℕ) (command : Command) → unwrap_or (place_of now actor) 0 < length total
    → asked + asks_one (Says actor command) ≤ queries
    → has_wrong_actor named (Says actor command) ≡ false → has_unknown_name named (Says actor command) ≡ false → has_other_family named (Says actor command) ≡ false
    → NamesWhatIs named total queries (spoken named now asked number actor command)
spoken_names named total now queries asked number actor (Open id) speaker most wrong unknown other =
    let at = placed (is_session_of actor) named.protocols (session_of named actor) refl wrong in
    (speaker, at.below, at.item, at.item_is, second_true _ _ at.passes)
spoken_names named total now queries asked number actor Close speaker most wrong unknown other =
    let at = placed (is_session_of actor) named.protocols (session_of named actor) refl wrong in
    (speaker, at.below, at.item, at.item_is, second_true _ _ at.passes)
spoken_names named total now queries asked number actor (Add net given) speaker most wrong unknown other =
    let at = placed (is_session_of actor) named.protocols (session_of named actor) refl wrong in
    let both = same_family (session_of named actor) (is_of_family named actor (family_of net.addr) && is_of_family named actor (family_of given.gw)) wrong other in (
      speaker,
      at.below,
      at.item,
      at.item_is,
      (kind_is named actor (family_of net.addr) at.item at.found (first_true _ _ both), kind_is named actor (family_of given.gw) at.item at.found (second_true _ _ both)),
    )
spoken_names named total now queries asked number actor (Del net) speaker most wrong unknown other =
    let at = placed (is_session_of actor) named.protocols (session_of named actor) refl wrong in
    let same = same_family (session_of named actor) (is_of_family named actor (family_of net.addr)) wrong other in
    (speaker, at.below, at.item, at.item_is, kind_is named actor (family_of net.addr) at.item at.found same)
spoken_names named total now queries asked number actor (Disable name) speaker most wrong unknown other =
    let at = placed (is_called name) named.protocols (protocol_of named name) refl unknown in
    (speaker, at.below, at.item, at.item_is, tt)
spoken_names named total now queries asked number actor (Enable name) speaker most wrong unknown other =
    let at = placed (is_called name) named.protocols (protocol_of named name) refl unknown in
    (speaker, at.below, at.item, at.item_is, tt)
spoken_names named total now queries asked number actor (Reload name) speaker most wrong unknown other =
    let at = placed (is_called name) named.protocols (protocol_of named name) refl unknown in
    (speaker, at.below, at.item, at.item_is, tt)
spoken_names named total now queries asked number actor (ReloadIn name) speaker most wrong unknown other =
    let at = placed (is_called name) named.protocols (protocol_of named name) refl unknown in
    (speaker, at.below, at.item, at.item_is, tt)
spoken_names named total now queries asked number actor (ReloadOut name) speaker most wrong unknown other =
    let at = placed (is_called name) named.protocols (protocol_of named name) refl unknown in
    (speaker, at.below, at.item, at.item_is, tt)
spoken_names named total now queries asked number actor (ShowRoute question) speaker most wrong unknown other = (speaker, omega (arith, most))

-- a line at the front of the first phase
onto_names : (P : Line → Type 0) (line : Line) (phases : List (List Line)) → P line → All (All P) phases → All (All P) (onto_first line phases)
onto_names P line [] is all = All-cons (All P) (line ∷ []) [] (All-cons P line [] is (All-nil P)) (All-nil (All P))
onto_names P line (phase ∷ phases) is all =
    All-cons (All P) (line ∷ phase) phases (All-cons P line phase is (All-head (All P) phase phases all)) (All-tail (All P) phase phases all)

form_names : (named : Named) (total actors : List (List ℕ)) (queries asked number : ℕ) (form : Form) (phases : List (List Line)) → least_kind named actors form ≡ None
    → length (with_actor actors form) ≤ length total → asked + asks_one form ≤ queries → All (All (NamesWhatIs named total queries)) phases
    → All (All (NamesWhatIs named total queries)) (with_line named (with_actor actors form) asked number form phases)
form_names named total actors queries asked number Sync phases fine most few all = All-cons (All (NamesWhatIs named total queries)) [] phases (All-nil (NamesWhatIs named total queries)) all
form_names named total actors queries asked number (Take channel count) phases fine most few all =
    let is = all_fine named actors (Take channel count) fine in
    let at = placed (λ other. bytes_eq other channel) named.channels (channel_of named channel) refl is.1 in
    onto_names (NamesWhatIs named total queries) (lines.Take (unwrap_or (channel_of named channel) 0) count) phases (at.below, few_bits count (not_false _ is.3)) all
form_names named total actors queries asked number (Push channel count) phases fine most few all =
    let is = all_fine named actors (Push channel count) fine in
    let at = placed (λ other. bytes_eq other channel) named.channels (channel_of named channel) refl is.1 in
    onto_names (NamesWhatIs named total queries) (lines.Push (unwrap_or (channel_of named channel) 0) count) phases (at.below, few_bits count (not_false _ is.3)) all
form_names named total actors queries asked number (Says actor command) phases fine most few all =
    let is = all_fine named actors (Says actor command) fine in
    let now = with_actor actors (Says actor command) in
    let speaker : unwrap_or (place_of now actor) 0 < length total = omega (arith, speaks actors actor command, most) in
    onto_names (NamesWhatIs named total queries) (spoken named now asked number actor command) phases (spoken_names named total now queries asked number actor command speaker few is.0 is.1 is.2) all

all_name : (named : Named) (total actors : List (List ℕ)) (queries asked : ℕ) (given : List (ℕ × List ℕ)) (forms : List (ℕ × Form)) → AreForms named actors given forms
    → length (actors_of actors forms) ≤ length total → asked + asks forms ≤ queries → All (All (NamesWhatIs named total queries)) (phases_of named actors asked forms)
all_name named total actors queries asked [] [] are most few = All-cons (All (NamesWhatIs named total queries)) [] [] (All-nil (NamesWhatIs named total queries)) (All-nil (All (NamesWhatIs named total queries)))
all_name named total actors queries asked [] (said ∷ forms) are most few = absurd are
all_name named total actors queries asked (line ∷ given) [] are most few = absurd are
all_name named total actors queries asked (line ∷ given) (said ∷ forms) are most few =
    let now = with_actor actors said.1 in
    let here : length now ≤ length total = omega (arith, grown now forms, most) in
    form_names named total actors queries asked said.0 said.1 (phases_of named now (asked + asks_one said.1) forms) are.2 here (omega (arith, few))
    (all_name named total now queries (asked + asks_one said.1) given forms are.3 most (omega (arith, few)))

few_speak : (named : Named) (actors : List (List ℕ)) (given : List (ℕ × List ℕ)) (forms : List (ℕ × Form)) → AreForms named actors given forms → length actors ≤ 64
    → length (actors_of actors forms) ≤ 64
few_speak named actors [] [] are most = most
few_speak named actors [] (said ∷ forms) are most = absurd are
few_speak named actors (line ∷ given) [] are most = absurd are
few_speak named actors (line ∷ given) (said ∷ forms) are most =
    few_speak named (with_actor actors said.1) given forms are.3 (actors_stay actors said.1 most (least_fine [] named actors said.1 are.2))

-- queries ask for what there is
or_false : (a b : Bool) → (a || b) ≡ false → (a ≡ false) × (b ≡ false)
or_false true b is = absurd (true_false is)
or_false false b is = (refl, is)

if_some : (P : ℕ → Type 0) (o : Option ℕ) → is_none o ≡ false → P (unwrap_or o 0) → IfSome o P
if_some P (Some n) some is = is
if_some P None some is = absurd (true_false some)

all_at : (P : NamedProtocol → Type 0) (xs : List NamedProtocol) (i : ℕ) (x : NamedProtocol) → All P xs → slice_get xs i ≡ Some x → P x
all_at P [] i x all is = absurd (none_some x is)
all_at P (y ∷ xs) zero x all is = subst P (some_same y x is) (All-head P y xs all)
all_at P (y ∷ xs) (suc i) x all is = all_at P xs i x (All-tail P y xs all) is

default_small : (family : Option Family) → default_table family < 2
default_small None = omega arith
default_small (Some families.V4) = omega arith
default_small (Some families.V6) = omega arith

table_there : (named : Named) (table export : Option (List ℕ)) (pick : Select) → HasTables named → lacks (table_of named) table ≡ false → lacks (session_of named) export ≡ false
    → unwrap_or (table_by named table export pick) 0 < length named.tables
table_there named (Some name) export pick has one other =
    let at = placed (is_table name) named.tables (table_of named name) refl one in
    at.below
table_there named None (Some name) pick has one other =
    let at = placed (is_session_of name) named.protocols (session_of named name) refl other in
    let same : unwrap_or (export_table named name) 0 ≡ at.item.table = ap (λ (o : Option NamedProtocol). unwrap_or (option_map (λ (p : NamedProtocol). p.table) o) 0) at.found in
    let there = all_at (λ (p : NamedProtocol). p.table < length named.tables) named.protocols _ at.item has.protocols at.item_is in
    omega (arith, same, there)
table_there named None None pick has one other = omega (arith, default_small (pick_family pick), has.masters)

-- the exports of this protocol are those of a bgp one that reads this table
abbrev Exports : Named → ℕ → ℕ → Type 0
Exports named table number =
    (number < length named.protocols) × (declared : NamedProtocol) × (slice_get named.protocols number ≡ Some declared) × (is_bgp declared.kind ≡ true) × (table ≡ declared.table)

export_there : (named : Named) (table export : Option (List ℕ)) (pick : Select) → IsTrue (is_none table || is_none export) → lacks (session_of named) export ≡ false
    → IfSome (option_and_then (session_of named) export) (Exports named (unwrap_or (table_by named table export pick) 0))
export_there named table None pick apart known = tt
export_there named (Some name) (Some other) pick apart known = absurd (true_false (sym apart))
export_there named None (Some name) pick apart known =
    let at = placed (is_session_of name) named.protocols (session_of named name) refl known in
    let same : unwrap_or (export_table named name) 0 ≡ at.item.table = ap (λ (o : Option NamedProtocol). unwrap_or (option_map (λ (p : NamedProtocol). p.table) o) 0) at.found in
    if_some (Exports named (unwrap_or (export_table named name) 0)) (session_of named name) known (at.below, at.item, at.item_is, second_true _ _ at.passes, same)

source_there : (named : Named) (protocol : Option (List ℕ)) → lacks (protocol_of named) protocol ≡ false → IfSome (option_and_then (protocol_of named) protocol) (λ number. number < length named.protocols)
source_there named None known = tt
source_there named (Some name) known =
    let at = placed (is_called name) named.protocols (protocol_of named name) refl known in
    if_some (λ number. number < length named.protocols) (protocol_of named name) known at.below

choice_there : (named : Named) (before total : ℕ) (condition filter : Option (List ℕ)) → lacks (filter_of named) filter ≡ false → before + length (option_to_list condition) ≤ total
    → IfSome (choice_by named before condition filter) (λ number. number < length named.filters + total)
choice_there named before total (Some text) filter known most = omega (arith, most)
choice_there named before total None None known most = tt
choice_there named before total None (Some name) known most =
    let at = placed (λ other. bytes_eq other name) named.filters (filter_of named name) refl known in
    if_some (λ number. number < length named.filters + total) (filter_of named name) known (omega (arith, at.below))

asks_there : (named : Named) (before total : ℕ) (asked : Asked) → HasTables named → asks_unknown named asked ≡ false → IsTrue (is_none asked.table || is_none asked.export)
    → before + length (option_to_list asked.condition) ≤ total → AsksWhatIs named total (query_of named before asked)
asks_there named before total asked has known apart most =
    let parts = or_false _ _ known in
    let more = or_false _ _ parts.0 in
    let first = or_false _ _ more.0 in
    record {
      table = table_there named asked.table asked.export asked.pick has first.0 more.1;
      choice = choice_there named before total asked.condition asked.filter parts.1 most;
      source = source_there named asked.protocol first.1;
      export = export_there named asked.table asked.export asked.pick apart more.1;
    }

line_asks : (named : Named) (before total : ℕ) (actors : List (List ℕ)) (line : List ℕ) (form : Form) → HasTables named → HasForm line form → least_kind named actors form ≡ None
    → before + length (option_to_list (condition_in form)) ≤ total → All (AsksWhatIs named total) (query_at named before (asked_in form))
line_asks named before total actors line (Says actor (ShowRoute asked)) has is fine most =
    let known = all_fine named actors (Says actor (ShowRoute asked)) fine in
    let question = said_question (behind_words 3 line) (words_of line) actor asked is in
    All-cons (AsksWhatIs named total) (query_of named before asked) [] (asks_there named before total asked has known.1 question.one_table most) (All-nil (AsksWhatIs named total))
line_asks named before total actors line (Says actor _) has is fine most = All-nil (AsksWhatIs named total)
line_asks named before total actors line _ has is fine most = All-nil (AsksWhatIs named total)

all_joined : {X : Type 0} (P : X → Type 0) (xs ys : List X) → All P xs → All P ys → All P (xs ++ ys)
all_joined P [] ys one other = other
all_joined P (x ∷ xs) ys one other = All-cons P x (xs ++ ys) (All-head P x xs one) (all_joined P xs ys (All-tail P x xs one) other)

all_ask : (named : Named) (before total : ℕ) (actors : List (List ℕ)) (given : List (ℕ × List ℕ)) (forms : List (ℕ × Form)) → HasTables named → AreForms named actors given forms
    → before + length (conditions_of forms) ≤ total → All (AsksWhatIs named total) (queries_of named before forms)
all_ask named before total actors [] [] has are most = All-nil (AsksWhatIs named total)
all_ask named before total actors [] (said ∷ forms) has are most = absurd are
all_ask named before total actors (line ∷ given) [] has are most = absurd are
all_ask named before total actors (line ∷ given) (said ∷ forms) has are most =
    let here = option_to_list (condition_in said.1) in
    let counts = length-append (condition_at said.0 (condition_in said.1)) (conditions_of forms) in
    let same = condition_counts said.0 (condition_in said.1) in
    all_joined (AsksWhatIs named total) (query_at named before (asked_in said.1)) (queries_of named (before + length here) forms)
    (line_asks named before total actors line.1 said.1 has are.1 are.2 (omega (arith, most, counts, same)))
    (all_ask named (before + length here) total (with_actor actors said.1) given forms has are.3 (omega (arith, most, counts, same)))

-- how many queries there are
counts_queries : (named : Named) (before : ℕ) (forms : List (ℕ × Form)) → length (queries_of named before forms) ≡ asks forms
counts_queries named before [] = refl
counts_queries named before (said ∷ forms) =
    length-append (query_at named before (asked_in said.1)) (queries_of named (before + length (option_to_list (condition_in said.1))) forms)
    ∙ omega (arith, query_counts named before (asked_in said.1), counts_queries named (before + length (option_to_list (condition_in said.1))) forms)

pub script_names : (named : Named) (text : List ℕ) (phases : List (List Line)) (actors : List (List ℕ)) (queries : List Query) (conditions : List Condition)
    → IsScript named text phases actors queries conditions → All (All (NamesWhatIs named actors (length queries))) phases
script_names named text phases actors queries conditions is =
    let few : 0 + asks is.forms ≤ length queries = omega (arith, ap length is.queries_are, counts_queries named 0 is.forms) in
    let all = all_name named (actors_of [] is.forms) [] (length queries) 0 _ is.forms is.forms_are (omega arith) few in
    let P : List (List ℕ) → Type 0 = λ l. All (All (NamesWhatIs named l (length queries))) (phases_of named [] 0 is.forms) in
    subst (λ (p : List (List Line)). All (All (NamesWhatIs named actors (length queries))) p) (sym is.phases_are) (subst P (sym is.actors_are) all)

pub script_actors : (named : Named) (text : List ℕ) (phases : List (List Line)) (actors : List (List ℕ)) (queries : List Query) (conditions : List Condition)
    → IsScript named text phases actors queries conditions → length actors ≤ 64
script_actors named text phases actors queries conditions is = omega (arith, few_speak named [] _ is.forms is.forms_are (omega arith), ap length is.actors_are)

pub script_asks : (named : Named) (text : List ℕ) (phases : List (List Line)) (actors : List (List ℕ)) (queries : List Query) (conditions : List Condition) → HasTables named
    → IsScript named text phases actors queries conditions → All (AsksWhatIs named (length conditions)) queries
script_asks named text phases actors queries conditions has is =
    let all = all_ask named 0 (length conditions) [] _ is.forms has is.forms_are (omega (arith, ap length is.conditions_are)) in
    subst (λ (q : List Query). All (AsksWhatIs named (length conditions)) q) (sym is.queries_are) all
