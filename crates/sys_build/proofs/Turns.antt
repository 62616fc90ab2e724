-- What is given of the first protocols of a list, and one more.
use Rattle.std.proofs.Common.{◌≡◌, ◌∙◌, sym, ap, refl, ℕ, Bool, ◌+◌, ◌<◌, ◌≤◌, List, [], ◌∷◌, ◌++◌, length, map, take, get_or, Some, arith, append_assoc, append-nil}
use Rattle.std.specs.Prelude.{slice_get}
use Rattle.std.proofs.lemmas.List.{length-map, length-take-le, map-append, take_all, take_more}
use Rattle.std.proofs.lemmas.Option.{get_or_from_slice_get, slice_get_within}
use Rattle.bits_ip.specs.declared.address.Family.{Family}
use Rattle.core_setup.specs.Setup as setup
use Rattle.script_lines.specs.declared.named.Named.{Named}
use Rattle.script_lines.specs.declared.named.NamedProtocol.{NamedProtocol}
use Rattle.script_lines.specs.declared.named.NamedTable.{NamedTable}
use Rattle.conf_system.specs.System.{Protocol, System}
use Rattle.sys_build.specs.Names.{all_channels, channels_of, named_of, named_protocol, named_table}
use Rattle.sys_build.specs.Setups.{protocol_of, protocols_from}

-- ---- lists

-- one item more, as it is seen
seen_more : {D S : Type 0} (see : D → S) (defs : List D) (i : ℕ) (d : D) → i < length defs → d ≡ get_or defs i d → map see (take (i + 1) defs) ≡ map see (take i defs) ++ see d ∷ []
seen_more see defs i d below is =
    ap (λ (l : List _). map see l) (take_more defs i d below ∙ ap (λ (y : _). take i defs ++ y ∷ []) (sym is))
    ∙ map-append see (take i defs) (d ∷ [])

pub seen_all : {D S : Type 0} (see : D → S) (defs : List D) (i : ℕ) → length defs ≤ i → map see (take i defs) ≡ map see defs
seen_all see defs i past = ap (λ (l : List _). map see l) (take_all i defs past)

pub got_next : {P S : Type 0} (see : P → S) (xs : List S) (old new : List P) (i : ℕ) (x : P) → map see old ≡ take i xs → new ≡ old ++ x ∷ [] → slice_get xs i ≡ Some (see x) → map see new ≡ take (i + 1) xs
got_next see xs old new i x so_far pushed is =
    ap (λ (l : List _). map see l) pushed ∙ map-append see old (x ∷ []) ∙ ap (λ (l : List _). l ++ see x ∷ []) so_far
    ∙ sym (take_more xs i (see x) (slice_get_within xs i (see x) is) ∙ ap (λ (y : _). take i xs ++ y ∷ []) (get_or_from_slice_get xs i (see x) (see x) is))

pub took_next : {S : Type 0} (xs old new : List S) (i : ℕ) (x : S) → old ≡ take i xs → new ≡ old ++ x ∷ [] → slice_get xs i ≡ Some x → new ≡ take (i + 1) xs
took_next xs old new i x so_far pushed is =
    pushed ∙ ap (λ (l : List _). l ++ x ∷ []) so_far
    ∙ sym (take_more xs i x (slice_get_within xs i x is) ∙ ap (λ (y : _). take i xs ++ y ∷ []) (get_or_from_slice_get xs i x x is))

pub took_all : {S : Type 0} (xs got : List S) (i : ℕ) → got ≡ take i xs → length xs ≤ i → got ≡ xs
took_all xs got i so_far past = so_far ∙ take_all i xs past

-- ---- tables and filters

abbrev pub table_named : NamedTable → List ℕ × Family
table_named table = (table.name, table.family)

tables_back : (named : List NamedTable) → map named_table (map table_named named) ≡ named
tables_back [] = refl
tables_back (table ∷ more) = ap (λ (l : List NamedTable). table ∷ l) (tables_back more)

pub tables_named : (named : List NamedTable) (tables : List (List ℕ × Family)) (i : ℕ) → map table_named named ≡ take i tables → length tables ≤ i → named ≡ map named_table tables
tables_named named tables i so_far past = sym (tables_back named) ∙ ap (λ (l : List (List ℕ × Family)). map named_table l) (took_all tables (map table_named named) i so_far past)

-- one condition more behind filters
pub asked_turn : {D P S : Type 0} (made : P → S) (see : D → S) (first : List S) (defs : List D) (i : ℕ) (d : D) (old new : List P) (x : P) → i < length defs → d ≡ get_or defs i d
    → map made old ≡ first ++ map see (take i defs) → new ≡ old ++ x ∷ [] → made x ≡ see d → map made new ≡ first ++ map see (take (i + 1) defs)
asked_turn made see first defs i d old new x below is so_far pushed same =
    ap (λ (l : List _). map made l) pushed ∙ map-append made old (x ∷ []) ∙ ap (λ (l : List _). l ++ made x ∷ []) so_far
    ∙ ap (λ (y : _). (first ++ map see (take i defs)) ++ y ∷ []) same
    ∙ append_assoc first (map see (take i defs)) (see d ∷ [])
    ∙ ap (λ (l : List _). first ++ l) (sym (seen_more see defs i d below is))

-- ---- protocols

protocols_push : (n : ℕ) (ps : List Protocol) (p : Protocol) → protocols_from n (ps ++ p ∷ []) ≡ protocols_from n ps ++ protocol_of (n + length ps) p ∷ []
protocols_push n [] p = ap (λ (k : ℕ). protocol_of k p ∷ []) (omega arith)
protocols_push n (q ∷ ps) p =
    ap (λ (l : List setup.Protocol). protocol_of n q ∷ l) (protocols_push (n + 1) ps p)
    ∙ ap (λ (k : ℕ). protocol_of n q ∷ (protocols_from (n + 1) ps ++ protocol_of k p ∷ [])) (omega arith)

pub protocols_turn : {D P : Type 0} (see : D → Protocol) (made : P → setup.Protocol) (defs : List D) (i : ℕ) (d : D) (old new : List P) (x : P) → i < length defs → d ≡ get_or defs i d → map made old ≡ protocols_from 0 (map see (take i defs))
    → new ≡ old ++ x ∷ [] → made x ≡ protocol_of i (see d) → map made new ≡ protocols_from 0 (map see (take (i + 1) defs))
protocols_turn see made defs i d old new x below is so_far pushed seen =
    ap (λ (l : List _). map made l) pushed ∙ map-append made old (x ∷ []) ∙ ap (λ (l : List setup.Protocol). l ++ made x ∷ []) so_far
    ∙ ap (λ (y : setup.Protocol). protocols_from 0 (map see (take i defs)) ++ y ∷ []) seen
    ∙ ap (λ (k : ℕ). protocols_from 0 (map see (take i defs)) ++ protocol_of k (see d) ∷ []) (omega (arith, length-map (take i defs) see, length-take-le i defs (omega (arith, below))))
    ∙ sym (protocols_push 0 (map see (take i defs)) (see d))
    ∙ ap (λ (l : List Protocol). protocols_from 0 l) (sym (seen_more see defs i d below is))

-- ---- names

pub named_turn : {D S N : Type 0} (see : D → S) (name : S → N) (defs : List D) (i : ℕ) (d : D) (old new : List N) (x : N) → i < length defs → d ≡ get_or defs i d → old ≡ map name (map see (take i defs))
    → new ≡ old ++ x ∷ [] → x ≡ name (see d) → new ≡ map name (map see (take (i + 1) defs))
named_turn see name defs i d old new x below is so_far pushed given =
    pushed ∙ ap (λ (l : List _). l ++ x ∷ []) so_far ∙ ap (λ (y : _). map name (map see (take i defs)) ++ y ∷ []) given
    ∙ sym (map-append name (map see (take i defs)) (see d ∷ []))
    ∙ ap (λ (l : List _). map name l) (sym (seen_more see defs i d below is))

channels_push : (ps : List Protocol) (p : Protocol) → all_channels (ps ++ p ∷ []) ≡ all_channels ps ++ channels_of p.name p.body
channels_push [] p = append-nil (channels_of p.name p.body)
channels_push (q ∷ ps) p =
    ap (λ (l : List (List ℕ)). channels_of q.name q.body ++ l) (channels_push ps p)
    ∙ sym (append_assoc (channels_of q.name q.body) (all_channels ps) (channels_of p.name p.body))

pub channels_turn : {D : Type 0} (see : D → Protocol) (defs : List D) (i : ℕ) (d : D) (old new : List (List ℕ)) → i < length defs → d ≡ get_or defs i d → old ≡ all_channels (map see (take i defs))
    → new ≡ old ++ channels_of (see d).name (see d).body → new ≡ all_channels (map see (take (i + 1) defs))
channels_turn see defs i d old new below is so_far pushed =
    pushed ∙ ap (λ (l : List (List ℕ)). l ++ channels_of (see d).name (see d).body) so_far
    ∙ sym (channels_push (map see (take i defs)) (see d))
    ∙ ap (λ (l : List Protocol). all_channels l) (sym (seen_more see defs i d below is))

pub named_is : (system : System) (schedule : Bool) (protocols : List NamedProtocol) (channels : List (List ℕ)) (tables : List NamedTable) (filters : List (List ℕ)) → protocols ≡ map named_protocol system.protocols → channels ≡ all_channels system.protocols
    → tables ≡ map named_table system.tables → filters ≡ map (λ filter. filter.0) system.filters → record { protocols = protocols; channels = channels; tables = tables; filters = filters; schedule = schedule } ≡ named_of system schedule
unfolding named_of
named_is system schedule protocols channels tables filters protocols_are channels_are tables_are filters_are =
    ap (λ (l : List NamedProtocol). made l channels tables filters) protocols_are
    ∙ ap (λ (l : List (List ℕ)). made (map named_protocol system.protocols) l tables filters) channels_are
    ∙ ap (λ (l : List NamedTable). made (map named_protocol system.protocols) (all_channels system.protocols) l filters) tables_are
    ∙ ap (λ (l : List (List ℕ)). made (map named_protocol system.protocols) (all_channels system.protocols) (map named_table system.tables) l) filters_are
  where
    made : List NamedProtocol → List (List ℕ) → List NamedTable → List (List ℕ) → Named
    made protocols channels tables filters = record { protocols = protocols; channels = channels; tables = tables; filters = filters; schedule = schedule }
