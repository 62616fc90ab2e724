-- Pieces of the report's text, appended one after another.
use Rattle.std.proofs.Common.{◌≡◌, ◌++◌, ◌∷◌, [], ℕ, ◌+◌, ◌<◌, List, length, take, get_or, append_assoc, ap, sym, ◌∙◌, arith}
use Rattle.std.proofs.lemmas.List.{append-nil, flat_map_more, length-take-le, take_more}
use Rattle.std.specs.List.{flat_map}
use Rattle.attrs.specs.declared.route.Change.{Change}
use Rattle.attrs.specs.declared.route.Route.{Route}
use Rattle.attrs.specs.declared.route.Row.{Row}
use Rattle.report.specs.Report.{entries_text, entry_text, line2, row_text}
use Rattle.report.specs.ReportParts.{row_route_text}

-- a line of a net, a source and attributes
pub route_line :
    (b net name attrs b1 b2 b3 b4 : List ℕ)
    → b1 ≡ b ++ 9 ∷ 9 ∷ [] → b2 ≡ b1 ++ (net ++ 32 ∷ name ++ 32 ∷ []) → b3 ≡ b2 ++ attrs → b4 ≡ b3 ++ 10 ∷ []
    → b4 ≡ b ++ line2 (net ++ 32 ∷ name ++ 32 ∷ attrs)
route_line b net name attrs b1 b2 b3 b4 e1 e2 e3 e4 = rw (e4, e3, e2, e1) (simp append_assoc)

-- a line of a key and attributes
pub sent_line :
    (b key attrs b1 b2 b3 b4 : List ℕ)
    → b1 ≡ b ++ 9 ∷ 9 ∷ [] → b2 ≡ b1 ++ key → b3 ≡ b2 ++ attrs → b4 ≡ b3 ++ 10 ∷ []
    → b4 ≡ b ++ line2 (key ++ attrs)
sent_line b key attrs b1 b2 b3 b4 e1 e2 e3 e4 = rw (e4, e3, e2, e1) (simp append_assoc)

-- one entry more, at the position behind the others
pub entries_more :
    (names : List (List ℕ)) (p q : ℕ) (cs : List Change) (c : Change)
    → q ≡ p + length cs + 1 → entries_text names p (cs ++ c ∷ []) ≡ entries_text names p cs ++ entry_text names q c
entries_more names p q [] c e =
    let next : p + 1 ≡ q = omega arith in
    append-nil (entry_text names (p + 1) c) ∙ ap (λ (n : ℕ). entry_text names n c) next
entries_more names p q (x ∷ xs) c e =
    ap (λ (rest : List ℕ). entry_text names (p + 1) x ++ rest) (entries_more names (p + 1) q xs c (omega arith))
    ∙ sym (append_assoc (entry_text names (p + 1) x) (entries_text names (p + 1) xs) (entry_text names q c))

-- one step over the entries
pub entries_step :
    (names : List (List ℕ)) (p q i : ℕ) (cs : List Change) (c : Change) (b b1 b2 : List ℕ)
    → i < length cs → c ≡ get_or cs i c → q ≡ p + i + 1
    → b1 ≡ b ++ entries_text names p (take i cs) → b2 ≡ b1 ++ entry_text names q c
    → b2 ≡ b ++ entries_text names p (take (i + 1) cs)
entries_step names p q i cs c b b1 b2 below is at e1 e2 =
    let count : length (take i cs) ≡ i = length-take-le i cs (omega arith) in
    let front : take (i + 1) cs ≡ take i cs ++ c ∷ [] = take_more cs i c below ∙ ap (λ (x : Change). take i cs ++ x ∷ []) (sym is) in
    let more : entries_text names p (take i cs ++ c ∷ []) ≡ entries_text names p (take i cs) ++ entry_text names q c =
    entries_more names p q (take i cs) c (rw count at) in
    e2 ∙ ap (λ (l : List ℕ). l ++ entry_text names q c) e1
    ∙ append_assoc b (entries_text names p (take i cs)) (entry_text names q c)
    ∙ ap (λ (l : List ℕ). b ++ l) (sym (ap (entries_text names p) front ∙ more))

-- one step over a table's nets
pub rows_step :
    (names : List (List ℕ)) (i : ℕ) (rows : List Row) (row : Row) (routes : List Route) (b b1 b2 : List ℕ)
    → i < length rows → row ≡ get_or rows i row → routes ≡ row.routes
    → b1 ≡ b ++ flat_map (row_text names) (take i rows) → b2 ≡ b1 ++ flat_map (row_route_text names row.net) routes
    → b2 ≡ b ++ flat_map (row_text names) (take (i + 1) rows)
rows_step names i rows row routes b b1 b2 below is all e1 e2 =
    let front : take (i + 1) rows ≡ take i rows ++ row ∷ [] = take_more rows i row below ∙ ap (λ (x : Row). take i rows ++ x ∷ []) (sym is) in
    e2 ∙ ap (λ (l : List Route). b1 ++ flat_map (row_route_text names row.net) l) all
    ∙ ap (λ (l : List ℕ). l ++ row_text names row) e1
    ∙ flat_map_more (row_text names) b (take i rows) row
    ∙ ap (λ (xs : List Row). b ++ flat_map (row_text names) xs) (sym front)
