-- Bodies within their limits are whole.
use Rattle.std.proofs.Common.{◌≡◌, ℕ, List, [], ◌∷◌, ◌++◌, length, refl, sym, ◌∙◌, ap, subst, arith, append_assoc, append-nil}
use Rattle.std.specs.List.{concat}
use Rattle.httparse.specs.Ascii.{crlf_bytes}
use Rattle.httparse.specs.Grammar.{print_chunk_line, print_section}
use Rattle.stream_grammar.specs.Framing.{AreSpelled}
use Rattle.http_edge.specs.Bodies.{IsChunkedBody}
use Rattle.http_edge.specs.Chunks.{AreChunks, IsChunk}
use Rattle.collector_laws.specs.Whole.{ChunkedIsWhole, IsFitting, IsFittingChunk, RequestIsWhole, SizedIsWhole}

pub sized_whole : SizedIsWhole
sized_whole body few = (refl, refl, few)

-- ---- chunks

chunk_is : (d text : List ℕ) → IsFittingChunk d text → IsChunk d text
chunk_is d text f = record {
  line = print_chunk_line f.chunk.line;
  line_is = record { line = f.chunk.line; is = f.chunk.line_is; text_is = refl; short = f.short; size_is = f.chunk.size_is };
  some = f.chunk.some;
  text_is = f.chunk.text_is;
}

chunk_fits : (d text : List ℕ) → IsChunk d text → IsFittingChunk d text
chunk_fits d text i = record {
  chunk = record {
    line = i.line_is.line;
    line_is = i.line_is.is;
    size_is = i.line_is.size_is;
    some = i.some;
    text_is = i.text_is ∙ ap (λ (v : List ℕ). v ++ (d ++ crlf_bytes)) i.line_is.text_is;
  };
  short = let s = i.line_is.short in omega (arith, s, ap (λ (l : List ℕ). length l) i.line_is.text_is);
}

chunks_are : (ds : List (List ℕ)) (text : List ℕ) → AreSpelled IsFittingChunk ds text → AreChunks ds (concat ds) text
chunks_are [] text none = (refl, none)
chunks_are (d ∷ ds) text (x, y, one, e, more) = (x, concat ds, y, chunk_is d x one, refl, e, chunks_are ds y more)

chunks_fit : (ds : List (List ℕ)) (body text : List ℕ) → AreChunks ds body text → (body ≡ concat ds) × AreSpelled IsFittingChunk ds text
chunks_fit [] body text (b, t) = (b, t)
chunks_fit (d ∷ ds) body text (chunk, rest, more, one, b, t, are) =
    let others = chunks_fit ds rest more are in
    (b ∙ ap (λ (l : List ℕ). d ++ l) others.0, (chunk, more, chunk_fits d chunk one, t, others.1))

-- ---- a chunked body

fitting_body : (body text : List ℕ) → IsFitting body text → IsChunkedBody body text
fitting_body body text f = record {
  front = f.front ++ print_chunk_line f.last;
  trailer = print_section f.fields f.end;
  reaches = (
    refl,
    f.fits,
    record {
      chunks = f.chunks;
      front = f.front;
      line = print_chunk_line f.last;
      are = subst (λ (b : List ℕ). AreChunks f.chunks b f.front) (sym f.body_is) (chunks_are f.chunks f.front f.spelled);
      line_is = record { line = f.last; is = f.last_is; text_is = refl; short = f.last_short; size_is = sym f.none };
      text_is = refl;
    },
  );
  holds = record { fields = f.fields; last = f.end; reads = (f.fields_are, sym (append-nil (print_section f.fields f.end))); few = f.few };
  short = f.short;
  text_is = f.text_is ∙ sym (append_assoc f.front (print_chunk_line f.last) (print_section f.fields f.end));
}

body_fits : (body text : List ℕ) → IsChunkedBody body text → IsFitting body text
body_fits body text c =
    let p = c.reaches.2 in
    let h = c.holds in
    let line = p.line_is.line in
    let chunks = chunks_fit p.chunks body p.front p.are in
    let trailer : c.trailer ≡ print_section h.fields h.last = h.reads.1 ∙ append-nil (print_section h.fields h.last) in
    record {
      chunks = p.chunks;
      front = p.front;
      last = line;
      fields = h.fields;
      end = h.last;
      spelled = chunks.1;
      last_is = p.line_is.is;
      none = sym p.line_is.size_is;
      last_short = let s = p.line_is.short in omega (arith, s, ap (λ (l : List ℕ). length l) p.line_is.text_is);
      fields_are = h.reads.0;
      few = h.few;
      short = let s = c.short in omega (arith, s, ap (λ (l : List ℕ). length l) trailer);
      body_is = chunks.0;
      fits = c.reaches.1;
      text_is = c.text_is ∙ (λ i. p.text_is i ++ trailer i) ∙ append_assoc p.front p.line (print_section h.fields h.last) ∙ ap (λ (l : List ℕ). p.front ++ (l ++ print_section h.fields h.last)) p.line_is.text_is;
    }

pub chunked_whole : ChunkedIsWhole
chunked_whole body text = (body_fits body text, fitting_body body text)

pub request_whole : RequestIsWhole
request_whole h body text is few short whole =
    record { head = h; text = text; begins = record { holds = record { reads = (is, refl); few = few }; short = short }; request_is = refl; body = whole }
