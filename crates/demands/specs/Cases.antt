-- Small calls, and what the oracle (the Rust, by document 01's rules) answers and writes: the definition gives the same, bit for bit, tails included.
-- Made by `oracle small 1 48 | tools/cases`; don't edit. 48 calls, which between them take every branch. One theorem, by computation.
use Rattle.std.specs.Prelude.{List, [], ◌∷◌, T}
use Rattle.definition.specs.Computed.{hold, opened}
use Rattle.demands.specs.Call.{Case, agreed}

abbrev cases : List Case
cases =
    -- refusal 1
    record {
      call =
          record {
            p = 1;
            m = 1;
            r = 1;
            n = 0;
            z = 0x3ff0000000000000 ∷ [];
            zs = [];
            repeats = 0;
            h = 0x0000000000000000 ∷ [];
            t = 0x0000000000000000 ∷ [];
            ts = [];
            rr = 0x0000000000000000 ∷ [];
            q = 0x0000000000000000 ∷ [];
            c = 0x0000000000000000 ∷ [];
            d = 0x0000000000000000 ∷ [];
            a1 = 0x0000000000000000 ∷ [];
            p_star = 0x0000000000000000 ∷ [];
            flags = 0 ∷ [];
            y = [];
            pred_mean = record { long = 1; written = [] };
            pred_cov = record { long = 1; written = [] };
            pred_inf = record { long = 1; written = [] };
            filt_mean = record { long = 0; written = [] };
            filt_cov = record { long = 0; written = [] };
            kinds = record { long = 0; written = [] };
            v = record { long = 0; written = [] };
            f_star = record { long = 0; written = [] };
            f_inf = record { long = 0; written = [] };
            m_star = record { long = 0; written = [] };
            m_inf = record { long = 0; written = [] };
          };
      filter = 1 ∷ [];
      smooth = 1 ∷ [];
      sm_mean = record { long = 0; written = [] };
      sm_cov = record { long = 0; written = [] };
    }
    -- skipped by its scale; refusal 12
    ∷ record {
      call =
          record {
            p = 1;
            m = 1;
            r = 1;
            n = 1;
            z = 0x3ff0000000000000 ∷ [];
            zs = [];
            repeats = 0;
            h = 0x0000000000000000 ∷ [];
            t = 0x3ff0000000000000 ∷ [];
            ts = [];
            rr = 0x3ff0000000000000 ∷ [];
            q = 0x0000000000000000 ∷ [];
            c = 0x0000000000000000 ∷ [];
            d = 0x0000000000000000 ∷ [];
            a1 = 0x0000000000000000 ∷ [];
            p_star = 0x0000000000000000 ∷ [];
            flags = 0 ∷ [];
            y = 0x3fe0000000000000 ∷ [];
            pred_mean = record { long = 2; written = 0x0000000000000000 ∷ 0x0000000000000000 ∷ [] };
            pred_cov = record { long = 2; written = 0x0000000000000000 ∷ 0x0000000000000000 ∷ [] };
            pred_inf = record { long = 2; written = 0x0000000000000000 ∷ 0x0000000000000000 ∷ [] };
            filt_mean = record { long = 1; written = 0x0000000000000000 ∷ [] };
            filt_cov = record { long = 1; written = 0x0000000000000000 ∷ [] };
            kinds = record { long = 1; written = 0 ∷ [] };
            v = record { long = 1; written = 0x0000000000000000 ∷ [] };
            f_star = record { long = 1; written = 0x0000000000000000 ∷ [] };
            f_inf = record { long = 1; written = 0x0000000000000000 ∷ [] };
            m_star = record { long = 1; written = 0x0000000000000000 ∷ [] };
            m_inf = record { long = 1; written = 0x0000000000000000 ∷ [] };
          };
      filter = 12 ∷ [];
      smooth = 12 ∷ [];
      sm_mean = record { long = 1; written = 0x0000000000000000 ∷ [] };
      sm_cov = record { long = 1; written = 0x0000000000000000 ∷ [] };
    }
    -- gap; infinity inside a run; known start; all readings gaps, answered
    ∷ record {
      call =
          record {
            p = 1;
            m = 1;
            r = 1;
            n = 1;
            z = 0x3ff0000000000000 ∷ [];
            zs = [];
            repeats = 0;
            h = 0x3ff0000000000000 ∷ [];
            t = 0x3ff0000000000000 ∷ [];
            ts = [];
            rr = 0x3ff0000000000000 ∷ [];
            q = 0x7fe0000000000000 ∷ [];
            c = 0x0000000000000000 ∷ [];
            d = 0x0000000000000000 ∷ [];
            a1 = 0x0000000000000000 ∷ [];
            p_star = 0x7fe0000000000000 ∷ [];
            flags = 0 ∷ [];
            y = 0x7ff8000000000000 ∷ [];
            pred_mean = record { long = 2; written = 0x0000000000000000 ∷ 0x0000000000000000 ∷ [] };
            pred_cov = record { long = 2; written = 0x7fe0000000000000 ∷ 0x7ff0000000000000 ∷ [] };
            pred_inf = record { long = 2; written = 0x0000000000000000 ∷ 0x0000000000000000 ∷ [] };
            filt_mean = record { long = 1; written = 0x0000000000000000 ∷ [] };
            filt_cov = record { long = 1; written = 0x7fe0000000000000 ∷ [] };
            kinds = record { long = 1; written = 0 ∷ [] };
            v = record { long = 1; written = 0x0000000000000000 ∷ [] };
            f_star = record { long = 1; written = 0x0000000000000000 ∷ [] };
            f_inf = record { long = 1; written = 0x0000000000000000 ∷ [] };
            m_star = record { long = 1; written = 0x0000000000000000 ∷ [] };
            m_inf = record { long = 1; written = 0x0000000000000000 ∷ [] };
          };
      filter = 0 ∷ 0x0000000000000000 ∷ 0 ∷ 0 ∷ 0 ∷ 0 ∷ 0 ∷ [];
      smooth = 0 ∷ 0x0000000000000000 ∷ 0 ∷ 0 ∷ 0 ∷ 0 ∷ 0 ∷ [];
      sm_mean = record { long = 1; written = 0x0000000000000000 ∷ [] };
      sm_cov = record { long = 1; written = 0x7fe0000000000000 ∷ [] };
    }
    -- usual; skipped by its scale; clear before any update; skipped by its scale, and below too; known start
    ∷ record {
      call =
          record {
            p = 2;
            m = 1;
            r = 1;
            n = 1;
            z = 0x3ff0000000000000 ∷ 0x3fe0000000000000 ∷ [];
            zs = [];
            repeats = 0;
            h = 0x0000000000000000 ∷ 0x0000000000000000 ∷ 0x0000000000000000 ∷ 0x0000000000000000 ∷ [];
            t = 0x3ff0000000000000 ∷ [];
            ts = [];
            rr = 0x3ff0000000000000 ∷ [];
            q = 0x0000000000000000 ∷ [];
            c = 0x0000000000000000 ∷ [];
            d = 0x0000000000000000 ∷ 0x0000000000000000 ∷ [];
            a1 = 0x0000000000000000 ∷ [];
            p_star = 0x3fd0000000000000 ∷ [];
            flags = 0 ∷ [];
            y = 0x0000000000000000 ∷ 0x0000000000000000 ∷ [];
            pred_mean = record { long = 2; written = 0x0000000000000000 ∷ 0x0000000000000000 ∷ [] };
            pred_cov = record { long = 2; written = 0x3fd0000000000000 ∷ 0x0000000000000000 ∷ [] };
            pred_inf = record { long = 2; written = 0x0000000000000000 ∷ 0x0000000000000000 ∷ [] };
            filt_mean = record { long = 1; written = 0x0000000000000000 ∷ [] };
            filt_cov = record { long = 1; written = 0x0000000000000000 ∷ [] };
            kinds = record { long = 2; written = 1 ∷ 3 ∷ [] };
            v = record { long = 2; written = 0x0000000000000000 ∷ 0x0000000000000000 ∷ [] };
            f_star = record { long = 2; written = 0x3fd0000000000000 ∷ 0x0000000000000000 ∷ [] };
            f_inf = record { long = 2; written = 0x0000000000000000 ∷ 0x0000000000000000 ∷ [] };
            m_star = record { long = 2; written = 0x3fd0000000000000 ∷ 0x0000000000000000 ∷ [] };
            m_inf = record { long = 2; written = 0x0000000000000000 ∷ 0x0000000000000000 ∷ [] };
          };
      filter = 0 ∷ 0xbfcce6bb25aa1314 ∷ 0 ∷ 2 ∷ 1 ∷ 0 ∷ 0 ∷ [];
      smooth = 0 ∷ 0xbfcce6bb25aa1314 ∷ 0 ∷ 2 ∷ 1 ∷ 0 ∷ 0 ∷ [];
      sm_mean = record { long = 1; written = 0x0000000000000000 ∷ [] };
      sm_cov = record { long = 1; written = 0x0000000000000000 ∷ [] };
    }
    -- usual; clear before any update; below; known start
    ∷ record {
      call =
          record {
            p = 2;
            m = 1;
            r = 1;
            n = 1;
            z = 0x3ff0000000000000 ∷ 0x54b0000000000000 ∷ [];
            zs = [];
            repeats = 0;
            h = 0x0000000000000000 ∷ 0x0000000000000000 ∷ 0x0000000000000000 ∷ 0x31f0000000000000 ∷ [];
            t = 0x3ff0000000000000 ∷ [];
            ts = [];
            rr = 0x3ff0000000000000 ∷ [];
            q = 0x0000000000000000 ∷ [];
            c = 0x0000000000000000 ∷ [];
            d = 0x0000000000000000 ∷ 0x0000000000000000 ∷ [];
            a1 = 0x0000000000000000 ∷ [];
            p_star = 0x6980000000000000 ∷ [];
            flags = 0 ∷ [];
            y = 0x0000000000000000 ∷ 0x0000000000000000 ∷ [];
            pred_mean = record { long = 2; written = 0x0000000000000000 ∷ 0x0000000000000000 ∷ [] };
            pred_cov = record { long = 2; written = 0x6980000000000000 ∷ 0x0000000000000000 ∷ [] };
            pred_inf = record { long = 2; written = 0x0000000000000000 ∷ 0x0000000000000000 ∷ [] };
            filt_mean = record { long = 1; written = 0x0000000000000000 ∷ [] };
            filt_cov = record { long = 1; written = 0x0000000000000000 ∷ [] };
            kinds = record { long = 2; written = 1 ∷ 4 ∷ [] };
            v = record { long = 2; written = 0x0000000000000000 ∷ 0x0000000000000000 ∷ [] };
            f_star = record { long = 2; written = 0x6980000000000000 ∷ 0x0000000000000000 ∷ [] };
            f_inf = record { long = 2; written = 0x0000000000000000 ∷ 0x0000000000000000 ∷ [] };
            m_star = record { long = 2; written = 0x6980000000000000 ∷ 0x0000000000000000 ∷ [] };
            m_inf = record { long = 2; written = 0x0000000000000000 ∷ 0x0000000000000000 ∷ [] };
          };
      filter = 0 ∷ 0xc06cec7df5f464fe ∷ 0 ∷ 2 ∷ 1 ∷ 0 ∷ 0 ∷ [];
      smooth = 0 ∷ 0xc06cec7df5f464fe ∷ 0 ∷ 2 ∷ 1 ∷ 0 ∷ 0 ∷ [];
      sm_mean = record { long = 1; written = 0x0000000000000000 ∷ [] };
      sm_cov = record { long = 1; written = 0x0000000000000000 ∷ [] };
    }
    -- usual; clear before any update; suspect accepted by replay; root built; root used again; signed zero in an output; known start
    ∷ record {
      call =
          record {
            p = 3;
            m = 1;
            r = 1;
            n = 1;
            z = 0x4000000000000000 ∷ 0x4000000000000000 ∷ 0x4010000000000000 ∷ [];
            zs = [];
            repeats = 0;
            h = 0x3de0000000000000 ∷ 0x0000000000000000 ∷ 0x0000000000000000 ∷ 0x0000000000000000 ∷ 0x3eb0000000000000 ∷ 0x0000000000000000 ∷ 0x0000000000000000 ∷ 0x0000000000000000 ∷ 0x0000000000000000 ∷ [];
            t = 0x3ff0000000000000 ∷ [];
            ts = [];
            rr = 0x3ff0000000000000 ∷ [];
            q = 0x0000000000000000 ∷ [];
            c = 0x0000000000000000 ∷ [];
            d = 0x0000000000000000 ∷ 0x0000000000000000 ∷ 0x0000000000000000 ∷ [];
            a1 = 0x0000000000000000 ∷ [];
            p_star = 0x4020000000000000 ∷ [];
            flags = 0 ∷ [];
            y = 0x8000000000000000 ∷ 0x8000000000000000 ∷ 0x4000000000000000 ∷ [];
            pred_mean = record { long = 2; written = 0x0000000000000000 ∷ 0x3fe0000000000000 ∷ [] };
            pred_cov = record { long = 2; written = 0x4020000000000000 ∷ 0x0000000000000000 ∷ [] };
            pred_inf = record { long = 2; written = 0x0000000000000000 ∷ 0x0000000000000000 ∷ [] };
            filt_mean = record { long = 1; written = 0x3fe0000000000000 ∷ [] };
            filt_cov = record { long = 1; written = 0x0000000000000000 ∷ [] };
            kinds = record { long = 3; written = 1 ∷ 1 ∷ 1 ∷ [] };
            v = record { long = 3; written = 0x8000000000000000 ∷ 0x8000000000000000 ∷ 0x4000000000000000 ∷ [] };
            f_star = record { long = 3; written = 0x4040000000004000 ∷ 0x3eb0008000000000 ∷ 0x3dffff0007ffc002 ∷ [] };
            f_inf = record { long = 3; written = 0x0000000000000000 ∷ 0x0000000000000000 ∷ 0x0000000000000000 ∷ [] };
            m_star = record { long = 3; written = 0x4030000000000000 ∷ 0x3dd0000000000000 ∷ 0x3ddfff0007ffc002 ∷ [] };
            m_inf = record { long = 3; written = 0x0000000000000000 ∷ 0x0000000000000000 ∷ 0x0000000000000000 ∷ [] };
          };
      filter = 0 ∷ 0xc1f0007fff2d07e9 ∷ 0 ∷ 3 ∷ 3 ∷ 0 ∷ 0 ∷ [];
      smooth = 0 ∷ 0xc1f0007fff2d07e9 ∷ 0 ∷ 3 ∷ 3 ∷ 0 ∷ 0 ∷ [];
      sm_mean = record { long = 1; written = 0x3fe0000000000000 ∷ [] };
      sm_cov = record { long = 1; written = 0x0000000000000000 ∷ [] };
    }
    -- refusal 9
    ∷ record {
      call =
          record {
            p = 1;
            m = 1;
            r = 1;
            n = 1;
            z = 0x0000000000000000 ∷ [];
            zs = [];
            repeats = 1;
            h = 0x0000000000000000 ∷ [];
            t = [];
            ts = 0x3ff0000000000000 ∷ [];
            rr = 0x3fe0000000000000 ∷ [];
            q = 0x3ff0000000000000 ∷ [];
            c = 0x0000000000000000 ∷ [];
            d = 0x0000000000000000 ∷ [];
            a1 = 0x0000000000000000 ∷ [];
            p_star = 0x0000000000000000 ∷ [];
            flags = 1 ∷ [];
            y = 0xfff0000000000000 ∷ [];
            pred_mean = record { long = 2; written = [] };
            pred_cov = record { long = 2; written = [] };
            pred_inf = record { long = 2; written = [] };
            filt_mean = record { long = 1; written = [] };
            filt_cov = record { long = 1; written = [] };
            kinds = record { long = 1; written = [] };
            v = record { long = 1; written = [] };
            f_star = record { long = 1; written = [] };
            f_inf = record { long = 1; written = [] };
            m_star = record { long = 1; written = [] };
            m_inf = record { long = 1; written = [] };
          };
      filter = 9 ∷ [];
      smooth = 9 ∷ [];
      sm_mean = record { long = 1; written = [] };
      sm_cov = record { long = 1; written = [] };
    }
    -- refusal 3
    ∷ record {
      call =
          record {
            p = 1;
            m = 1;
            r = 1;
            n = 1;
            z = 0x0000000000000000 ∷ [];
            zs = [];
            repeats = 0;
            h = 0x0000000000000000 ∷ [];
            t = [];
            ts = 0x3ff0000000000000 ∷ [];
            rr = 0x7ff0000000000000 ∷ [];
            q = 0x4010000000000000 ∷ [];
            c = 0x0000000000000000 ∷ [];
            d = 0x0000000000000000 ∷ [];
            a1 = 0x0000000000000000 ∷ [];
            p_star = 0x0000000000000000 ∷ [];
            flags = 1 ∷ [];
            y = 0x3ff0000000000000 ∷ [];
            pred_mean = record { long = 2; written = [] };
            pred_cov = record { long = 2; written = [] };
            pred_inf = record { long = 2; written = [] };
            filt_mean = record { long = 1; written = [] };
            filt_cov = record { long = 1; written = [] };
            kinds = record { long = 1; written = [] };
            v = record { long = 1; written = [] };
            f_star = record { long = 1; written = [] };
            f_inf = record { long = 1; written = [] };
            m_star = record { long = 1; written = [] };
            m_inf = record { long = 1; written = [] };
          };
      filter = 3 ∷ [];
      smooth = 3 ∷ [];
      sm_mean = record { long = 1; written = [] };
      sm_cov = record { long = 1; written = [] };
    }
    -- refusal 4
    ∷ record {
      call =
          record {
            p = 1;
            m = 1;
            r = 1;
            n = 1;
            z = 0x0000000000000000 ∷ [];
            zs = [];
            repeats = 0;
            h = 0x0000000000000000 ∷ [];
            t = 0x3ff0000000000000 ∷ [];
            ts = [];
            rr = 0x4010000000000000 ∷ [];
            q = 0xbff0000000000000 ∷ [];
            c = 0x0000000000000000 ∷ [];
            d = 0x0000000000000000 ∷ [];
            a1 = 0x0000000000000000 ∷ [];
            p_star = 0x0000000000000000 ∷ [];
            flags = 1 ∷ [];
            y = 0x4010000000000000 ∷ [];
            pred_mean = record { long = 2; written = [] };
            pred_cov = record { long = 2; written = [] };
            pred_inf = record { long = 2; written = [] };
            filt_mean = record { long = 1; written = [] };
            filt_cov = record { long = 1; written = [] };
            kinds = record { long = 1; written = [] };
            v = record { long = 1; written = [] };
            f_star = record { long = 1; written = [] };
            f_inf = record { long = 1; written = [] };
            m_star = record { long = 1; written = [] };
            m_inf = record { long = 1; written = [] };
          };
      filter = 4 ∷ [];
      smooth = 4 ∷ [];
      sm_mean = record { long = 1; written = [] };
      sm_cov = record { long = 1; written = [] };
    }
    -- refusal 6
    ∷ record {
      call =
          record {
            p = 1;
            m = 1;
            r = 1;
            n = 1;
            z = 0x0000000000000000 ∷ [];
            zs = [];
            repeats = 0;
            h = 0x0000000000000000 ∷ [];
            t = 0x3ff0000000000000 ∷ [];
            ts = [];
            rr = 0x4000000000000000 ∷ [];
            q = 0x3ff0000000000000 ∷ [];
            c = 0x0000000000000000 ∷ [];
            d = 0x7ff0000000000000 ∷ [];
            a1 = 0x0000000000000000 ∷ [];
            p_star = 0x0000000000000000 ∷ [];
            flags = 1 ∷ [];
            y = 0x3fe0000000000000 ∷ [];
            pred_mean = record { long = 2; written = [] };
            pred_cov = record { long = 2; written = [] };
            pred_inf = record { long = 2; written = [] };
            filt_mean = record { long = 1; written = [] };
            filt_cov = record { long = 1; written = [] };
            kinds = record { long = 1; written = [] };
            v = record { long = 1; written = [] };
            f_star = record { long = 1; written = [] };
            f_inf = record { long = 1; written = [] };
            m_star = record { long = 1; written = [] };
            m_inf = record { long = 1; written = [] };
          };
      filter = 6 ∷ [];
      smooth = 6 ∷ [];
      sm_mean = record { long = 1; written = [] };
      sm_cov = record { long = 1; written = [] };
    }
    -- diffuse; diffuse start; smoother alone refused, by its own parts
    ∷ record {
      call =
          record {
            p = 1;
            m = 1;
            r = 1;
            n = 1;
            z = 0x3ff0000000000000 ∷ [];
            zs = [];
            repeats = 0;
            h = 0x3fe0000000000000 ∷ [];
            t = 0x3ff0000000000000 ∷ [];
            ts = [];
            rr = 0x4000000000000000 ∷ [];
            q = 0x4010000000000000 ∷ [];
            c = 0x0000000000000000 ∷ [];
            d = 0x0000000000000000 ∷ [];
            a1 = 0x0000000000000000 ∷ [];
            p_star = 0x0000000000000000 ∷ [];
            flags = 1 ∷ [];
            y = 0x4010000000000000 ∷ [];
            pred_mean = record { long = 2; written = 0x0000000000000000 ∷ 0x4010000000000000 ∷ [] };
            pred_cov = record { long = 2; written = 0x0000000000000000 ∷ 0x4030800000000000 ∷ [] };
            pred_inf = record { long = 2; written = 0x3ff0000000000000 ∷ 0x0000000000000000 ∷ [] };
            filt_mean = record { long = 1; written = 0x4010000000000000 ∷ [] };
            filt_cov = record { long = 1; written = 0x3fe0000000000000 ∷ [] };
            kinds = record { long = 1; written = 2 ∷ [] };
            v = record { long = 1; written = 0x4010000000000000 ∷ [] };
            f_star = record { long = 1; written = 0x3fe0000000000000 ∷ [] };
            f_inf = record { long = 1; written = 0x3ff0000000000000 ∷ [] };
            m_star = record { long = 1; written = 0x0000000000000000 ∷ [] };
            m_inf = record { long = 1; written = 0x3ff0000000000000 ∷ [] };
          };
      filter = 0 ∷ 0xbfed67f1c864beb4 ∷ 1 ∷ 1 ∷ 1 ∷ 0 ∷ 0 ∷ [];
      smooth = 2 ∷ [];
      sm_mean = record { long = 0; written = [] };
      sm_cov = record { long = 1; written = [] };
    }
    -- gap; place n's diffuse covariance non-zero; the same, below the tolerance; diffuse start; all readings gaps, answered; listed T, of n matrices
    ∷ record {
      call =
          record {
            p = 1;
            m = 1;
            r = 1;
            n = 1;
            z = 0x3ff0000000000000 ∷ [];
            zs = [];
            repeats = 0;
            h = 0x3ff0000000000000 ∷ [];
            t = [];
            ts = 0x3f50000000000000 ∷ [];
            rr = 0x3ff0000000000000 ∷ [];
            q = 0x0000000000000000 ∷ [];
            c = 0x0000000000000000 ∷ [];
            d = 0x0000000000000000 ∷ [];
            a1 = 0x0000000000000000 ∷ [];
            p_star = 0x0000000000000000 ∷ [];
            flags = 1 ∷ [];
            y = 0x7ff8000000000000 ∷ [];
            pred_mean = record { long = 2; written = 0x0000000000000000 ∷ 0x0000000000000000 ∷ [] };
            pred_cov = record { long = 2; written = 0x0000000000000000 ∷ 0x0000000000000000 ∷ [] };
            pred_inf = record { long = 2; written = 0x3ff0000000000000 ∷ 0x3eb0000000000000 ∷ [] };
            filt_mean = record { long = 1; written = 0x0000000000000000 ∷ [] };
            filt_cov = record { long = 1; written = 0x0000000000000000 ∷ [] };
            kinds = record { long = 1; written = 0 ∷ [] };
            v = record { long = 1; written = 0x0000000000000000 ∷ [] };
            f_star = record { long = 1; written = 0x0000000000000000 ∷ [] };
            f_inf = record { long = 1; written = 0x0000000000000000 ∷ [] };
            m_star = record { long = 1; written = 0x0000000000000000 ∷ [] };
            m_inf = record { long = 1; written = 0x0000000000000000 ∷ [] };
          };
      filter = 0 ∷ 0x0000000000000000 ∷ 1 ∷ 0 ∷ 0 ∷ 0 ∷ 0 ∷ [];
      smooth = 0 ∷ 0x0000000000000000 ∷ 1 ∷ 0 ∷ 0 ∷ 0 ∷ 0 ∷ [];
      sm_mean = record { long = 1; written = 0x0000000000000000 ∷ [] };
      sm_cov = record { long = 1; written = 0x0000000000000000 ∷ [] };
    }
    -- refusal 5
    ∷ record {
      call =
          record {
            p = 1;
            m = 1;
            r = 2;
            n = 1;
            z = 0x3ff0000000000000 ∷ [];
            zs = [];
            repeats = 0;
            h = 0x3fe0000000000000 ∷ [];
            t = 0x3ff0000000000000 ∷ [];
            ts = [];
            rr = 0x3fe0000000000000 ∷ 0x4000000000000000 ∷ [];
            q = 0x4010000000000000 ∷ 0xbff0000000000000 ∷ 0x8000000000000000 ∷ 0x4010000000000000 ∷ [];
            c = 0x0000000000000000 ∷ [];
            d = 0x0000000000000000 ∷ [];
            a1 = 0x0000000000000000 ∷ [];
            p_star = 0x0000000000000000 ∷ [];
            flags = 1 ∷ [];
            y = 0x4010000000000000 ∷ [];
            pred_mean = record { long = 2; written = [] };
            pred_cov = record { long = 2; written = [] };
            pred_inf = record { long = 2; written = [] };
            filt_mean = record { long = 1; written = [] };
            filt_cov = record { long = 1; written = [] };
            kinds = record { long = 1; written = [] };
            v = record { long = 1; written = [] };
            f_star = record { long = 1; written = [] };
            f_inf = record { long = 1; written = [] };
            m_star = record { long = 1; written = [] };
            m_inf = record { long = 1; written = [] };
          };
      filter = 5 ∷ [];
      smooth = 5 ∷ [];
      sm_mean = record { long = 1; written = [] };
      sm_cov = record { long = 1; written = [] };
    }
    -- usual; clear before any update; listed Z, shorter than n, marked; known start
    ∷ record {
      call =
          record {
            p = 1;
            m = 1;
            r = 1;
            n = 2;
            z = [];
            zs = 0x3fd0000000000000 ∷ [];
            repeats = 16;
            h = 0x3ff0000000000000 ∷ [];
            t = 0x3ff0000000000000 ∷ [];
            ts = [];
            rr = 0x3ff0000000000000 ∷ [];
            q = 0x0000000000000000 ∷ [];
            c = 0x0000000000000000 ∷ [];
            d = 0x0000000000000000 ∷ [];
            a1 = 0x0000000000000000 ∷ [];
            p_star = 0x3ff0000000000000 ∷ [];
            flags = 0 ∷ [];
            y = 0x0000000000000000 ∷ 0x0000000000000000 ∷ [];
            pred_mean = record { long = 3; written = 0x0000000000000000 ∷ 0x0000000000000000 ∷ 0x0000000000000000 ∷ [] };
            pred_cov = record { long = 3; written = 0x3ff0000000000000 ∷ 0x3fee1e1e1e1e1e1e ∷ 0x3fec71c71c71c71c ∷ [] };
            pred_inf = record { long = 3; written = 0x0000000000000000 ∷ 0x0000000000000000 ∷ 0x0000000000000000 ∷ [] };
            filt_mean = record { long = 2; written = 0x0000000000000000 ∷ 0x0000000000000000 ∷ [] };
            filt_cov = record { long = 2; written = 0x3fee1e1e1e1e1e1e ∷ 0x3fec71c71c71c71c ∷ [] };
            kinds = record { long = 2; written = 1 ∷ 1 ∷ [] };
            v = record { long = 2; written = 0x0000000000000000 ∷ 0x0000000000000000 ∷ [] };
            f_star = record { long = 2; written = 0x3ff1000000000000 ∷ 0x3ff0f0f0f0f0f0f1 ∷ [] };
            f_inf = record { long = 2; written = 0x0000000000000000 ∷ 0x0000000000000000 ∷ [] };
            m_star = record { long = 2; written = 0x3fd0000000000000 ∷ 0x3fce1e1e1e1e1e1e ∷ [] };
            m_inf = record { long = 2; written = 0x0000000000000000 ∷ 0x0000000000000000 ∷ [] };
          };
      filter = 0 ∷ 0xbffe592a03d6164b ∷ 0 ∷ 2 ∷ 2 ∷ 0 ∷ 0 ∷ [];
      smooth = 0 ∷ 0xbffe592a03d6164b ∷ 0 ∷ 2 ∷ 2 ∷ 0 ∷ 0 ∷ [];
      sm_mean = record { long = 2; written = 0x0000000000000000 ∷ 0x0000000000000000 ∷ [] };
      sm_cov = record { long = 2; written = 0x3fec71c71c71c71c ∷ 0x3fec71c71c71c71c ∷ [] };
    }
    -- usual; clear before any update; known start; marked, and nothing repeats; listed T, of n matrices
    ∷ record {
      call =
          record {
            p = 1;
            m = 1;
            r = 1;
            n = 2;
            z = 0x3fd0000000000000 ∷ [];
            zs = [];
            repeats = 1;
            h = 0x3ff0000000000000 ∷ [];
            t = [];
            ts = 0x3ff0000000000000 ∷ 0x3ff0000000000000 ∷ [];
            rr = 0x3ff0000000000000 ∷ [];
            q = 0x0000000000000000 ∷ [];
            c = 0x0000000000000000 ∷ [];
            d = 0x0000000000000000 ∷ [];
            a1 = 0x0000000000000000 ∷ [];
            p_star = 0x3ff0000000000000 ∷ [];
            flags = 0 ∷ [];
            y = 0x0000000000000000 ∷ 0x0000000000000000 ∷ [];
            pred_mean = record { long = 3; written = 0x0000000000000000 ∷ 0x0000000000000000 ∷ 0x0000000000000000 ∷ [] };
            pred_cov = record { long = 3; written = 0x3ff0000000000000 ∷ 0x3fee1e1e1e1e1e1e ∷ 0x3fec71c71c71c71c ∷ [] };
            pred_inf = record { long = 3; written = 0x0000000000000000 ∷ 0x0000000000000000 ∷ 0x0000000000000000 ∷ [] };
            filt_mean = record { long = 2; written = 0x0000000000000000 ∷ 0x0000000000000000 ∷ [] };
            filt_cov = record { long = 2; written = 0x3fee1e1e1e1e1e1e ∷ 0x3fec71c71c71c71c ∷ [] };
            kinds = record { long = 2; written = 1 ∷ 1 ∷ [] };
            v = record { long = 2; written = 0x0000000000000000 ∷ 0x0000000000000000 ∷ [] };
            f_star = record { long = 2; written = 0x3ff1000000000000 ∷ 0x3ff0f0f0f0f0f0f1 ∷ [] };
            f_inf = record { long = 2; written = 0x0000000000000000 ∷ 0x0000000000000000 ∷ [] };
            m_star = record { long = 2; written = 0x3fd0000000000000 ∷ 0x3fce1e1e1e1e1e1e ∷ [] };
            m_inf = record { long = 2; written = 0x0000000000000000 ∷ 0x0000000000000000 ∷ [] };
          };
      filter = 0 ∷ 0xbffe592a03d6164b ∷ 0 ∷ 2 ∷ 2 ∷ 0 ∷ 0 ∷ [];
      smooth = 0 ∷ 0xbffe592a03d6164b ∷ 0 ∷ 2 ∷ 2 ∷ 0 ∷ 0 ∷ [];
      sm_mean = record { long = 2; written = 0x0000000000000000 ∷ 0x0000000000000000 ∷ [] };
      sm_cov = record { long = 2; written = 0x3fec71c71c71c71c ∷ 0x3fec71c71c71c71c ∷ [] };
    }
    -- usual; clear before any update; known start; listed Z, of n designs
    ∷ record {
      call =
          record {
            p = 1;
            m = 1;
            r = 1;
            n = 2;
            z = [];
            zs = 0x3fd0000000000000 ∷ 0x3fe0000000000000 ∷ [];
            repeats = 0;
            h = 0x3ff0000000000000 ∷ [];
            t = 0x3ff0000000000000 ∷ [];
            ts = [];
            rr = 0x3ff0000000000000 ∷ [];
            q = 0x0000000000000000 ∷ [];
            c = 0x0000000000000000 ∷ [];
            d = 0x0000000000000000 ∷ [];
            a1 = 0x0000000000000000 ∷ [];
            p_star = 0x3ff0000000000000 ∷ [];
            flags = 0 ∷ [];
            y = 0x4000000000000000 ∷ 0x0000000000000000 ∷ [];
            pred_mean = record { long = 3; written = 0x0000000000000000 ∷ 0x3fde1e1e1e1e1e1e ∷ 0x3fd8618618618618 ∷ [] };
            pred_cov = record { long = 3; written = 0x3ff0000000000000 ∷ 0x3fee1e1e1e1e1e1e ∷ 0x3fe8618618618618 ∷ [] };
            pred_inf = record { long = 3; written = 0x0000000000000000 ∷ 0x0000000000000000 ∷ 0x0000000000000000 ∷ [] };
            filt_mean = record { long = 2; written = 0x3fde1e1e1e1e1e1e ∷ 0x3fd8618618618618 ∷ [] };
            filt_cov = record { long = 2; written = 0x3fee1e1e1e1e1e1e ∷ 0x3fe8618618618618 ∷ [] };
            kinds = record { long = 2; written = 1 ∷ 1 ∷ [] };
            v = record { long = 2; written = 0x4000000000000000 ∷ 0xbfce1e1e1e1e1e1e ∷ [] };
            f_star = record { long = 2; written = 0x3ff1000000000000 ∷ 0x3ff3c3c3c3c3c3c4 ∷ [] };
            f_inf = record { long = 2; written = 0x0000000000000000 ∷ 0x0000000000000000 ∷ [] };
            m_star = record { long = 2; written = 0x3fd0000000000000 ∷ 0x3fde1e1e1e1e1e1e ∷ [] };
            m_inf = record { long = 2; written = 0x0000000000000000 ∷ 0x0000000000000000 ∷ [] };
          };
      filter = 0 ∷ 0xc00f07627e2a0d8a ∷ 0 ∷ 2 ∷ 2 ∷ 0 ∷ 0 ∷ [];
      smooth = 0 ∷ 0xc00f07627e2a0d8a ∷ 0 ∷ 2 ∷ 2 ∷ 0 ∷ 0 ∷ [];
      sm_mean = record { long = 2; written = 0x3fd8618618618618 ∷ 0x3fd8618618618618 ∷ [] };
      sm_cov = record { long = 2; written = 0x3fe8618618618618 ∷ 0x3fe8618618618618 ∷ [] };
    }
    -- gap; infinity inside a run; known start; all readings gaps, answered; mean report
    ∷ record {
      call =
          record {
            p = 1;
            m = 1;
            r = 1;
            n = 2;
            z = 0x3ff0000000000000 ∷ [];
            zs = [];
            repeats = 0;
            h = 0x3ff0000000000000 ∷ [];
            t = 0xc000000000000000 ∷ [];
            ts = [];
            rr = 0x3ff0000000000000 ∷ [];
            q = 0x0000000000000000 ∷ [];
            c = 0x0000000000000000 ∷ [];
            d = 0x0000000000000000 ∷ [];
            a1 = 0x7fe0000000000000 ∷ [];
            p_star = 0x3ff0000000000000 ∷ [];
            flags = 0 ∷ [];
            y = 0x7ff8000000000000 ∷ 0x7ff8000000000000 ∷ [];
            pred_mean = record { long = 3; written = 0x7fe0000000000000 ∷ 0xfff0000000000000 ∷ 0x7ff0000000000000 ∷ [] };
            pred_cov = record { long = 3; written = 0x3ff0000000000000 ∷ 0x4010000000000000 ∷ 0x4030000000000000 ∷ [] };
            pred_inf = record { long = 3; written = 0x0000000000000000 ∷ 0x0000000000000000 ∷ 0x0000000000000000 ∷ [] };
            filt_mean = record { long = 2; written = 0x7fe0000000000000 ∷ 0xfff0000000000000 ∷ [] };
            filt_cov = record { long = 2; written = 0x3ff0000000000000 ∷ 0x4010000000000000 ∷ [] };
            kinds = record { long = 2; written = 0 ∷ 0 ∷ [] };
            v = record { long = 2; written = 0x0000000000000000 ∷ 0x0000000000000000 ∷ [] };
            f_star = record { long = 2; written = 0x0000000000000000 ∷ 0x0000000000000000 ∷ [] };
            f_inf = record { long = 2; written = 0x0000000000000000 ∷ 0x0000000000000000 ∷ [] };
            m_star = record { long = 2; written = 0x0000000000000000 ∷ 0x0000000000000000 ∷ [] };
            m_inf = record { long = 2; written = 0x0000000000000000 ∷ 0x0000000000000000 ∷ [] };
          };
      filter = 0 ∷ 0x0000000000000000 ∷ 0 ∷ 0 ∷ 0 ∷ 0 ∷ 2 ∷ [];
      smooth = 0 ∷ 0x0000000000000000 ∷ 0 ∷ 0 ∷ 0 ∷ 0 ∷ 2 ∷ [];
      sm_mean = record { long = 2; written = 0x7fe0000000000000 ∷ 0xfff0000000000000 ∷ [] };
      sm_cov = record { long = 2; written = 0x3ff0000000000000 ∷ 0x4010000000000000 ∷ [] };
    }
    -- refusal 8
    ∷ record {
      call =
          record {
            p = 2;
            m = 1;
            r = 1;
            n = 1;
            z = 0x0000000000000000 ∷ 0x0000000000000000 ∷ [];
            zs = [];
            repeats = 1;
            h = 0x0000000000000000 ∷ 0xbff0000000000000 ∷ 0x8000000000000000 ∷ 0x0000000000000000 ∷ [];
            t = 0x3ff0000000000000 ∷ [];
            ts = [];
            rr = 0x4010000000000000 ∷ [];
            q = 0x3ff0000000000000 ∷ [];
            c = 0x0000000000000000 ∷ [];
            d = 0x0000000000000000 ∷ 0x0000000000000000 ∷ [];
            a1 = 0x0000000000000000 ∷ [];
            p_star = 0x0000000000000000 ∷ [];
            flags = 1 ∷ [];
            y = 0x4010000000000000 ∷ 0x4000000000000000 ∷ [];
            pred_mean = record { long = 2; written = [] };
            pred_cov = record { long = 2; written = [] };
            pred_inf = record { long = 2; written = [] };
            filt_mean = record { long = 1; written = [] };
            filt_cov = record { long = 1; written = [] };
            kinds = record { long = 2; written = [] };
            v = record { long = 2; written = [] };
            f_star = record { long = 2; written = [] };
            f_inf = record { long = 2; written = [] };
            m_star = record { long = 2; written = [] };
            m_inf = record { long = 2; written = [] };
          };
      filter = 8 ∷ [];
      smooth = 8 ∷ [];
      sm_mean = record { long = 1; written = [] };
      sm_cov = record { long = 1; written = [] };
    }
    -- gap; known start; NaN with odd bits as a gap; all readings gaps, answered; listed T, longer than n
    ∷ record {
      call =
          record {
            p = 2;
            m = 1;
            r = 1;
            n = 1;
            z = 0x4008000000000000 ∷ 0x4008000000000000 ∷ [];
            zs = [];
            repeats = 0;
            h = 0x0000000000000000 ∷ 0x0000000000000000 ∷ 0x0000000000000000 ∷ 0x0000000000000000 ∷ [];
            t = [];
            ts = 0x3ff0000000000000 ∷ 0x3ff0000000000000 ∷ 0x4010000000000000 ∷ [];
            rr = 0xc014000000000000 ∷ [];
            q = 0x0000000000000000 ∷ [];
            c = 0x4012000000000000 ∷ [];
            d = 0xc000000000000000 ∷ 0xc018000000000000 ∷ [];
            a1 = 0x0000000000000000 ∷ [];
            p_star = 0x4018000000000000 ∷ [];
            flags = 0 ∷ [];
            y = 0x7ff8000000000000 ∷ 0xfff0000000000001 ∷ [];
            pred_mean = record { long = 2; written = 0x0000000000000000 ∷ 0x4012000000000000 ∷ [] };
            pred_cov = record { long = 2; written = 0x4018000000000000 ∷ 0x4018000000000000 ∷ [] };
            pred_inf = record { long = 2; written = 0x0000000000000000 ∷ 0x0000000000000000 ∷ [] };
            filt_mean = record { long = 1; written = 0x0000000000000000 ∷ [] };
            filt_cov = record { long = 1; written = 0x4018000000000000 ∷ [] };
            kinds = record { long = 2; written = 0 ∷ 0 ∷ [] };
            v = record { long = 2; written = 0x0000000000000000 ∷ 0x0000000000000000 ∷ [] };
            f_star = record { long = 2; written = 0x0000000000000000 ∷ 0x0000000000000000 ∷ [] };
            f_inf = record { long = 2; written = 0x0000000000000000 ∷ 0x0000000000000000 ∷ [] };
            m_star = record { long = 2; written = 0x0000000000000000 ∷ 0x0000000000000000 ∷ [] };
            m_inf = record { long = 2; written = 0x0000000000000000 ∷ 0x0000000000000000 ∷ [] };
          };
      filter = 0 ∷ 0x0000000000000000 ∷ 0 ∷ 0 ∷ 0 ∷ 0 ∷ 0 ∷ [];
      smooth = 0 ∷ 0x0000000000000000 ∷ 0 ∷ 0 ∷ 0 ∷ 0 ∷ 0 ∷ [];
      sm_mean = record { long = 1; written = 0x0000000000000000 ∷ [] };
      sm_cov = record { long = 1; written = 0x4018000000000000 ∷ [] };
    }
    -- gap; place n's diffuse covariance non-zero; signed zero in an output; listed Z, longer than n; diffuse start; all readings gaps, answered; marked, and nothing repeats
    ∷ record {
      call =
          record {
            p = 2;
            m = 1;
            r = 1;
            n = 1;
            z = [];
            zs = 0x3ff0000000000000 ∷ 0x3ff1000000000000 ∷ 0x3ff0000000000000 ∷ 0x3ff1000000000000 ∷ 0x4008000000000000 ∷ 0xbfe0000000000000 ∷ [];
            repeats = 251;
            h = 0x0000000000000000 ∷ 0x0000000000000000 ∷ 0x8000000000000000 ∷ 0x0000000000000000 ∷ [];
            t = 0x3ff0000000000000 ∷ [];
            ts = [];
            rr = 0x0000000000000000 ∷ [];
            q = 0x0000000000000000 ∷ [];
            c = 0x0000000000000000 ∷ [];
            d = 0x0000000000000000 ∷ 0x0000000000000000 ∷ [];
            a1 = 0x8000000000000000 ∷ [];
            p_star = 0x8000000000000000 ∷ [];
            flags = 1 ∷ [];
            y = 0x7ff8000000000000 ∷ 0x7ff8000000000000 ∷ [];
            pred_mean = record { long = 2; written = 0x8000000000000000 ∷ 0x0000000000000000 ∷ [] };
            pred_cov = record { long = 2; written = 0x8000000000000000 ∷ 0x0000000000000000 ∷ [] };
            pred_inf = record { long = 2; written = 0x3ff0000000000000 ∷ 0x3ff0000000000000 ∷ [] };
            filt_mean = record { long = 1; written = 0x8000000000000000 ∷ [] };
            filt_cov = record { long = 1; written = 0x8000000000000000 ∷ [] };
            kinds = record { long = 2; written = 0 ∷ 0 ∷ [] };
            v = record { long = 2; written = 0x0000000000000000 ∷ 0x0000000000000000 ∷ [] };
            f_star = record { long = 2; written = 0x0000000000000000 ∷ 0x0000000000000000 ∷ [] };
            f_inf = record { long = 2; written = 0x0000000000000000 ∷ 0x0000000000000000 ∷ [] };
            m_star = record { long = 2; written = 0x0000000000000000 ∷ 0x0000000000000000 ∷ [] };
            m_inf = record { long = 2; written = 0x0000000000000000 ∷ 0x0000000000000000 ∷ [] };
          };
      filter = 0 ∷ 0x0000000000000000 ∷ 1 ∷ 0 ∷ 0 ∷ 0 ∷ 0 ∷ [];
      smooth = 0 ∷ 0x0000000000000000 ∷ 1 ∷ 0 ∷ 0 ∷ 0 ∷ 0 ∷ [];
      sm_mean = record { long = 1; written = 0x0000000000000000 ∷ [] };
      sm_cov = record { long = 1; written = 0x8000000000000000 ∷ [] };
    }
    -- usual; clear before any update; infinity inside a run; NaN inside a run; known start; covariance report; mean report
    ∷ record {
      call =
          record {
            p = 1;
            m = 2;
            r = 1;
            n = 1;
            z = 0x3ff0000000000000 ∷ 0x0000000000000000 ∷ [];
            zs = [];
            repeats = 0;
            h = 0x0000000000000000 ∷ [];
            t = 0x0000000000000000 ∷ 0x0000000000000000 ∷ 0x0000000000000000 ∷ 0x0000000000000000 ∷ [];
            ts = [];
            rr = 0x3ff0000000000000 ∷ 0x0000000000000000 ∷ [];
            q = 0x0000000000000000 ∷ [];
            c = 0x0000000000000000 ∷ 0x0000000000000000 ∷ [];
            d = 0x0000000000000000 ∷ [];
            a1 = 0x0000000000000000 ∷ 0x0000000000000000 ∷ [];
            p_star = 0x39b0000000000000 ∷ 0x7e70000000000000 ∷ 0x7e70000000000000 ∷ 0x7e70000000000000 ∷ [];
            flags = 0 ∷ 0 ∷ [];
            y = 0x0000000000000000 ∷ [];
            pred_mean = record { long = 4; written = 0x0000000000000000 ∷ 0x0000000000000000 ∷ 0x7ff8000000000000 ∷ 0x7ff8000000000000 ∷ [] };
            pred_cov = record { long = 8; written = 0x39b0000000000000 ∷ 0x7e70000000000000 ∷ 0x7e70000000000000 ∷ 0x7e70000000000000 ∷ 0x7ff8000000000000 ∷ 0x7ff8000000000000 ∷ 0x7ff8000000000000 ∷ 0x7ff8000000000000 ∷ [] };
            pred_inf = record { long = 8; written = 0x0000000000000000 ∷ 0x0000000000000000 ∷ 0x0000000000000000 ∷ 0x0000000000000000 ∷ 0x0000000000000000 ∷ 0x0000000000000000 ∷ 0x0000000000000000 ∷ 0x0000000000000000 ∷ [] };
            filt_mean = record { long = 2; written = 0x0000000000000000 ∷ 0x7ff8000000000000 ∷ [] };
            filt_cov = record { long = 4; written = 0x0000000000000000 ∷ 0xfff0000000000000 ∷ 0xfff0000000000000 ∷ 0xfff0000000000000 ∷ [] };
            kinds = record { long = 1; written = 1 ∷ [] };
            v = record { long = 1; written = 0x0000000000000000 ∷ [] };
            f_star = record { long = 1; written = 0x39b0000000000000 ∷ [] };
            f_inf = record { long = 1; written = 0x0000000000000000 ∷ [] };
            m_star = record { long = 2; written = 0x39b0000000000000 ∷ 0x7e70000000000000 ∷ [] };
            m_inf = record { long = 2; written = 0x0000000000000000 ∷ 0x0000000000000000 ∷ [] };
          };
      filter = 0 ∷ 0x4040de849011ea48 ∷ 0 ∷ 1 ∷ 1 ∷ 1 ∷ 1 ∷ [];
      smooth = 0 ∷ 0x4040de849011ea48 ∷ 0 ∷ 1 ∷ 1 ∷ 1 ∷ 1 ∷ [];
      sm_mean = record { long = 2; written = 0x7ff8000000000000 ∷ 0x7ff8000000000000 ∷ [] };
      sm_cov = record { long = 4; written = 0x7ff8000000000000 ∷ 0x7ff8000000000000 ∷ 0x7ff8000000000000 ∷ 0x7ff8000000000000 ∷ [] };
    }
    -- gap; infinity inside a run; NaN inside a run; known start; all readings gaps, answered; covariance report
    ∷ record {
      call =
          record {
            p = 1;
            m = 2;
            r = 1;
            n = 1;
            z = 0x3ff0000000000000 ∷ 0x0000000000000000 ∷ [];
            zs = [];
            repeats = 0;
            h = 0x3ff0000000000000 ∷ [];
            t = 0x3ff0000000000000 ∷ 0x0000000000000000 ∷ 0x0000000000000000 ∷ 0x3ff0000000000000 ∷ [];
            ts = [];
            rr = 0x3ff0000000000000 ∷ 0x0000000000000000 ∷ [];
            q = 0x0000000000000000 ∷ [];
            c = 0x0000000000000000 ∷ 0x0000000000000000 ∷ [];
            d = 0x0000000000000000 ∷ [];
            a1 = 0x0000000000000000 ∷ 0x0000000000000000 ∷ [];
            p_star = 0x7fe0000000000000 ∷ 0x7fe0000000000000 ∷ 0x7fe0000000000000 ∷ 0x7fe0000000000000 ∷ [];
            flags = 0 ∷ 0 ∷ [];
            y = 0x7ff8000000000000 ∷ [];
            pred_mean = record { long = 4; written = 0x0000000000000000 ∷ 0x0000000000000000 ∷ 0x0000000000000000 ∷ 0x0000000000000000 ∷ [] };
            pred_cov = record { long = 8; written = 0x7fe0000000000000 ∷ 0x7fe0000000000000 ∷ 0x7fe0000000000000 ∷ 0x7fe0000000000000 ∷ 0x7ff8000000000000 ∷ 0x7ff8000000000000 ∷ 0x7ff8000000000000 ∷ 0x7ff8000000000000 ∷ [] };
            pred_inf = record { long = 8; written = 0x0000000000000000 ∷ 0x0000000000000000 ∷ 0x0000000000000000 ∷ 0x0000000000000000 ∷ 0x0000000000000000 ∷ 0x0000000000000000 ∷ 0x0000000000000000 ∷ 0x0000000000000000 ∷ [] };
            filt_mean = record { long = 2; written = 0x0000000000000000 ∷ 0x0000000000000000 ∷ [] };
            filt_cov = record { long = 4; written = 0x7fe0000000000000 ∷ 0x7ff0000000000000 ∷ 0x7ff0000000000000 ∷ 0x7fe0000000000000 ∷ [] };
            kinds = record { long = 1; written = 0 ∷ [] };
            v = record { long = 1; written = 0x0000000000000000 ∷ [] };
            f_star = record { long = 1; written = 0x0000000000000000 ∷ [] };
            f_inf = record { long = 1; written = 0x0000000000000000 ∷ [] };
            m_star = record { long = 2; written = 0x0000000000000000 ∷ 0x0000000000000000 ∷ [] };
            m_inf = record { long = 2; written = 0x0000000000000000 ∷ 0x0000000000000000 ∷ [] };
          };
      filter = 0 ∷ 0x0000000000000000 ∷ 0 ∷ 0 ∷ 0 ∷ 1 ∷ 0 ∷ [];
      smooth = 0 ∷ 0x0000000000000000 ∷ 0 ∷ 0 ∷ 0 ∷ 1 ∷ 0 ∷ [];
      sm_mean = record { long = 2; written = 0x0000000000000000 ∷ 0x0000000000000000 ∷ [] };
      sm_cov = record { long = 4; written = 0x7fe0000000000000 ∷ 0x7ff0000000000000 ∷ 0x7ff0000000000000 ∷ 0x7fe0000000000000 ∷ [] };
    }
    -- refusal 14
    ∷ record {
      call =
          record {
            p = 1;
            m = 1;
            r = 1;
            n = 2;
            z = [];
            zs = 0x0000000000000000 ∷ [];
            repeats = 0;
            h = 0x0000000000000000 ∷ [];
            t = 0x3ff0000000000000 ∷ [];
            ts = [];
            rr = 0x4010000000000000 ∷ [];
            q = 0x3ff0000000000000 ∷ [];
            c = 0x0000000000000000 ∷ [];
            d = 0x0000000000000000 ∷ [];
            a1 = 0x0000000000000000 ∷ [];
            p_star = 0x0000000000000000 ∷ [];
            flags = 1 ∷ [];
            y = 0x3fe0000000000000 ∷ 0x3ff0000000000000 ∷ [];
            pred_mean = record { long = 3; written = [] };
            pred_cov = record { long = 3; written = [] };
            pred_inf = record { long = 3; written = [] };
            filt_mean = record { long = 2; written = [] };
            filt_cov = record { long = 2; written = [] };
            kinds = record { long = 2; written = [] };
            v = record { long = 2; written = [] };
            f_star = record { long = 2; written = [] };
            f_inf = record { long = 2; written = [] };
            m_star = record { long = 2; written = [] };
            m_inf = record { long = 2; written = [] };
          };
      filter = 14 ∷ [];
      smooth = 14 ∷ [];
      sm_mean = record { long = 2; written = [] };
      sm_cov = record { long = 2; written = [] };
    }
    -- refusal 2; refusal 2 by T's reach
    ∷ record {
      call =
          record {
            p = 1;
            m = 1;
            r = 1;
            n = 2;
            z = [];
            zs = 0x3ff0000000000000 ∷ [];
            repeats = 0;
            h = 0x3fe0000000000000 ∷ [];
            t = [];
            ts = 0x3ff0000000000000 ∷ [];
            rr = 0x3ff0000000000000 ∷ [];
            q = 0x4000000000000000 ∷ [];
            c = 0x0000000000000000 ∷ [];
            d = 0x0000000000000000 ∷ [];
            a1 = 0x0000000000000000 ∷ [];
            p_star = 0x0000000000000000 ∷ [];
            flags = 1 ∷ [];
            y = 0x4000000000000000 ∷ 0x4000000000000000 ∷ [];
            pred_mean = record { long = 3; written = [] };
            pred_cov = record { long = 3; written = [] };
            pred_inf = record { long = 3; written = [] };
            filt_mean = record { long = 2; written = [] };
            filt_cov = record { long = 2; written = [] };
            kinds = record { long = 2; written = [] };
            v = record { long = 2; written = [] };
            f_star = record { long = 2; written = [] };
            f_inf = record { long = 2; written = [] };
            m_star = record { long = 2; written = [] };
            m_inf = record { long = 2; written = [] };
          };
      filter = 2 ∷ [];
      smooth = 2 ∷ [];
      sm_mean = record { long = 2; written = [] };
      sm_cov = record { long = 2; written = [] };
    }
    -- refusal 2
    ∷ record {
      call =
          record {
            p = 1;
            m = 1;
            r = 1;
            n = 2;
            z = [];
            zs = 0x3ff0000000000000 ∷ [];
            repeats = 0;
            h = 0x3fe0000000000000 ∷ [];
            t = 0x3ff0000000000000 ∷ [];
            ts = [];
            rr = 0x3ff0000000000000 ∷ [];
            q = 0x4010000000000000 ∷ [];
            c = 0x0000000000000000 ∷ [];
            d = 0x0000000000000000 ∷ [];
            a1 = 0x0000000000000000 ∷ [];
            p_star = 0x0000000000000000 ∷ [];
            flags = 1 ∷ [];
            y = 0x3ff0000000000000 ∷ 0x3fe0000000000000 ∷ [];
            pred_mean = record { long = 3; written = [] };
            pred_cov = record { long = 3; written = [] };
            pred_inf = record { long = 3; written = [] };
            filt_mean = record { long = 2; written = [] };
            filt_cov = record { long = 2; written = [] };
            kinds = record { long = 2; written = [] };
            v = record { long = 2; written = [] };
            f_star = record { long = 2; written = [] };
            f_inf = record { long = 2; written = [] };
            m_star = record { long = 0; written = [] };
            m_inf = record { long = 2; written = [] };
          };
      filter = 2 ∷ [];
      smooth = 2 ∷ [];
      sm_mean = record { long = 2; written = [] };
      sm_cov = record { long = 2; written = [] };
    }
    -- refusal 14
    ∷ record {
      call =
          record {
            p = 1;
            m = 1;
            r = 1;
            n = 2;
            z = [];
            zs = 0x3ff0000000000000 ∷ [];
            repeats = 0;
            h = 0xfff0000000000000 ∷ [];
            t = 0x3ff0000000000000 ∷ [];
            ts = [];
            rr = 0x4000000000000000 ∷ [];
            q = 0x3ff0000000000000 ∷ [];
            c = 0x0000000000000000 ∷ [];
            d = 0x0000000000000000 ∷ [];
            a1 = 0x0000000000000000 ∷ [];
            p_star = 0x0000000000000000 ∷ [];
            flags = 1 ∷ [];
            y = 0x4000000000000000 ∷ 0x3ff0000000000000 ∷ [];
            pred_mean = record { long = 3; written = [] };
            pred_cov = record { long = 3; written = [] };
            pred_inf = record { long = 3; written = [] };
            filt_mean = record { long = 2; written = [] };
            filt_cov = record { long = 2; written = [] };
            kinds = record { long = 2; written = [] };
            v = record { long = 2; written = [] };
            f_star = record { long = 2; written = [] };
            f_inf = record { long = 2; written = [] };
            m_star = record { long = 2; written = [] };
            m_inf = record { long = 2; written = [] };
          };
      filter = 14 ∷ [];
      smooth = 14 ∷ [];
      sm_mean = record { long = 2; written = [] };
      sm_cov = record { long = 2; written = [] };
    }
    -- gap; usual; clear before any update; exactly at a tolerance; d_diffuse over 1; infinity inside a run; NaN inside a run; place n's diffuse covariance non-zero; diffuse start; covariance report
    ∷ record {
      call =
          record {
            p = 1;
            m = 1;
            r = 1;
            n = 2;
            z = 0x3ff0000000000000 ∷ [];
            zs = [];
            repeats = 0;
            h = 0x3ff0000000000000 ∷ [];
            t = 0x7b80000000000000 ∷ [];
            ts = [];
            rr = 0x3ff0000000000000 ∷ [];
            q = 0x3ff0000000000000 ∷ [];
            c = 0x0000000000000000 ∷ [];
            d = 0x0000000000000000 ∷ [];
            a1 = 0x0000000000000000 ∷ [];
            p_star = 0x0000000000000000 ∷ [];
            flags = 1 ∷ [];
            y = 0x7ff8000000000000 ∷ 0x0000000000000000 ∷ [];
            pred_mean = record { long = 3; written = 0x0000000000000000 ∷ 0x0000000000000000 ∷ 0x0000000000000000 ∷ [] };
            pred_cov = record { long = 3; written = 0x0000000000000000 ∷ 0x3ff0000000000000 ∷ 0x7ff0000000000000 ∷ [] };
            pred_inf = record { long = 3; written = 0x3ff0000000000000 ∷ 0x7ff0000000000000 ∷ 0x7ff0000000000000 ∷ [] };
            filt_mean = record { long = 2; written = 0x0000000000000000 ∷ 0x0000000000000000 ∷ [] };
            filt_cov = record { long = 2; written = 0x0000000000000000 ∷ 0x3fe0000000000000 ∷ [] };
            kinds = record { long = 2; written = 0 ∷ 1 ∷ [] };
            v = record { long = 2; written = 0x0000000000000000 ∷ 0x0000000000000000 ∷ [] };
            f_star = record { long = 2; written = 0x0000000000000000 ∷ 0x4000000000000000 ∷ [] };
            f_inf = record { long = 2; written = 0x0000000000000000 ∷ 0x0000000000000000 ∷ [] };
            m_star = record { long = 2; written = 0x0000000000000000 ∷ 0x3ff0000000000000 ∷ [] };
            m_inf = record { long = 2; written = 0x0000000000000000 ∷ 0x0000000000000000 ∷ [] };
          };
      filter = 0 ∷ 0xbff43f89a3f0edd6 ∷ 2 ∷ 1 ∷ 1 ∷ 2 ∷ 0 ∷ [];
      smooth = 0 ∷ 0xbff43f89a3f0edd6 ∷ 2 ∷ 1 ∷ 1 ∷ 2 ∷ 0 ∷ [];
      sm_mean = record { long = 2; written = 0x0000000000000000 ∷ 0x0000000000000000 ∷ [] };
      sm_cov = record { long = 2; written = 0x7ff8000000000000 ∷ 0x7ff8000000000000 ∷ [] };
    }
    -- diffuse; usual; clear before any update; diffuse start; listed T, of n matrices; listed T that varies, smoothed
    ∷ record {
      call =
          record {
            p = 1;
            m = 1;
            r = 1;
            n = 2;
            z = 0x3ff0000000000000 ∷ [];
            zs = [];
            repeats = 0;
            h = 0x4018000000000000 ∷ [];
            t = [];
            ts = 0x4000000000000000 ∷ 0x3ff0000000000000 ∷ [];
            rr = 0x3ff0000000000000 ∷ [];
            q = 0x4000000000000000 ∷ [];
            c = 0x0000000000000000 ∷ [];
            d = 0x0000000000000000 ∷ [];
            a1 = 0x0000000000000000 ∷ [];
            p_star = 0x0000000000000000 ∷ [];
            flags = 1 ∷ [];
            y = 0x4000000000000000 ∷ 0x4042000000000000 ∷ [];
            pred_mean = record { long = 3; written = 0x0000000000000000 ∷ 0x4010000000000000 ∷ 0x403e000000000000 ∷ [] };
            pred_cov = record { long = 3; written = 0x0000000000000000 ∷ 0x403a000000000000 ∷ 0x401b800000000000 ∷ [] };
            pred_inf = record { long = 3; written = 0x3ff0000000000000 ∷ 0x0000000000000000 ∷ 0x0000000000000000 ∷ [] };
            filt_mean = record { long = 2; written = 0x4000000000000000 ∷ 0x403e000000000000 ∷ [] };
            filt_cov = record { long = 2; written = 0x4018000000000000 ∷ 0x4013800000000000 ∷ [] };
            kinds = record { long = 2; written = 2 ∷ 1 ∷ [] };
            v = record { long = 2; written = 0x4000000000000000 ∷ 0x4040000000000000 ∷ [] };
            f_star = record { long = 2; written = 0x4018000000000000 ∷ 0x4040000000000000 ∷ [] };
            f_inf = record { long = 2; written = 0x3ff0000000000000 ∷ 0x0000000000000000 ∷ [] };
            m_star = record { long = 2; written = 0x0000000000000000 ∷ 0x403a000000000000 ∷ [] };
            m_inf = record { long = 2; written = 0x3ff0000000000000 ∷ 0x0000000000000000 ∷ [] };
          };
      filter = 0 ∷ 0xc033921c5871d872 ∷ 1 ∷ 2 ∷ 2 ∷ 0 ∷ 0 ∷ [];
      smooth = 0 ∷ 0xc033921c5871d872 ∷ 1 ∷ 2 ∷ 2 ∷ 0 ∷ 0 ∷ [];
      sm_mean = record { long = 2; written = 0x402c000000000000 ∷ 0x403e000000000000 ∷ [] };
      sm_cov = record { long = 2; written = 0x3ff8000000000000 ∷ 0x4013800000000000 ∷ [] };
    }
    -- gap; infinity inside a run; NaN inside a run; known start; all readings gaps, answered; covariance report; mean report
    ∷ record {
      call =
          record {
            p = 1;
            m = 1;
            r = 1;
            n = 3;
            z = 0x3ff0000000000000 ∷ [];
            zs = [];
            repeats = 0;
            h = 0x3ff0000000000000 ∷ [];
            t = 0x4000000000000000 ∷ [];
            ts = [];
            rr = 0x3ff0000000000000 ∷ [];
            q = 0x0000000000000000 ∷ [];
            c = 0x0000000000000000 ∷ [];
            d = 0x0000000000000000 ∷ [];
            a1 = 0x7fd0000000000000 ∷ [];
            p_star = 0x7fd0000000000000 ∷ [];
            flags = 0 ∷ [];
            y = 0x7ff8000000000000 ∷ 0x7ff8000000000000 ∷ 0x7ff8000000000000 ∷ [];
            pred_mean = record { long = 4; written = 0x7fd0000000000000 ∷ 0x7fe0000000000000 ∷ 0x7ff0000000000000 ∷ 0x7ff0000000000000 ∷ [] };
            pred_cov = record { long = 4; written = 0x7fd0000000000000 ∷ 0x7ff0000000000000 ∷ 0x7ff0000000000000 ∷ 0x7ff0000000000000 ∷ [] };
            pred_inf = record { long = 4; written = 0x0000000000000000 ∷ 0x0000000000000000 ∷ 0x0000000000000000 ∷ 0x0000000000000000 ∷ [] };
            filt_mean = record { long = 3; written = 0x7fd0000000000000 ∷ 0x7fe0000000000000 ∷ 0x7ff0000000000000 ∷ [] };
            filt_cov = record { long = 3; written = 0x7fd0000000000000 ∷ 0x7ff0000000000000 ∷ 0x7ff0000000000000 ∷ [] };
            kinds = record { long = 3; written = 0 ∷ 0 ∷ 0 ∷ [] };
            v = record { long = 3; written = 0x0000000000000000 ∷ 0x0000000000000000 ∷ 0x0000000000000000 ∷ [] };
            f_star = record { long = 3; written = 0x0000000000000000 ∷ 0x0000000000000000 ∷ 0x0000000000000000 ∷ [] };
            f_inf = record { long = 3; written = 0x0000000000000000 ∷ 0x0000000000000000 ∷ 0x0000000000000000 ∷ [] };
            m_star = record { long = 3; written = 0x0000000000000000 ∷ 0x0000000000000000 ∷ 0x0000000000000000 ∷ [] };
            m_inf = record { long = 3; written = 0x0000000000000000 ∷ 0x0000000000000000 ∷ 0x0000000000000000 ∷ [] };
          };
      filter = 0 ∷ 0x0000000000000000 ∷ 0 ∷ 0 ∷ 0 ∷ 2 ∷ 3 ∷ [];
      smooth = 0 ∷ 0x0000000000000000 ∷ 0 ∷ 0 ∷ 0 ∷ 2 ∷ 3 ∷ [];
      sm_mean = record { long = 3; written = 0x7fd0000000000000 ∷ 0x7fe0000000000000 ∷ 0x7ff0000000000000 ∷ [] };
      sm_cov = record { long = 3; written = 0x7fd0000000000000 ∷ 0x7ff8000000000000 ∷ 0x7ff8000000000000 ∷ [] };
    }
    -- usual; skipped by its scale; clear before any update; skipped by a scale that is not finite; known start
    ∷ record {
      call =
          record {
            p = 2;
            m = 2;
            r = 1;
            n = 1;
            z = 0x0000000000000000 ∷ 0x3ff0000000000000 ∷ 0x62f0000000000000 ∷ 0x0000000000000000 ∷ [];
            zs = [];
            repeats = 0;
            h = 0x3ff0000000000000 ∷ 0x0000000000000000 ∷ 0x0000000000000000 ∷ 0x3fb0000000000000 ∷ [];
            t = 0x3ff0000000000000 ∷ 0x0000000000000000 ∷ 0x0000000000000000 ∷ 0x3ff0000000000000 ∷ [];
            ts = [];
            rr = 0x3ff0000000000000 ∷ 0x0000000000000000 ∷ [];
            q = 0x0000000000000000 ∷ [];
            c = 0x0000000000000000 ∷ 0x0000000000000000 ∷ [];
            d = 0x0000000000000000 ∷ 0x0000000000000000 ∷ [];
            a1 = 0x0000000000000000 ∷ 0x0000000000000000 ∷ [];
            p_star = 0x0000000000000000 ∷ 0x0000000000000000 ∷ 0x0000000000000000 ∷ 0x3ff0000000000000 ∷ [];
            flags = 0 ∷ 0 ∷ [];
            y = 0x3fd0000000000000 ∷ 0x0000000000000000 ∷ [];
            pred_mean = record { long = 4; written = 0x0000000000000000 ∷ 0x0000000000000000 ∷ 0x0000000000000000 ∷ 0x3fc0000000000000 ∷ [] };
            pred_cov = record { long = 8; written = 0x0000000000000000 ∷ 0x0000000000000000 ∷ 0x0000000000000000 ∷ 0x3ff0000000000000 ∷ 0x0000000000000000 ∷ 0x0000000000000000 ∷ 0x0000000000000000 ∷ 0x3fe0000000000000 ∷ [] };
            pred_inf = record { long = 8; written = 0x0000000000000000 ∷ 0x0000000000000000 ∷ 0x0000000000000000 ∷ 0x0000000000000000 ∷ 0x0000000000000000 ∷ 0x0000000000000000 ∷ 0x0000000000000000 ∷ 0x0000000000000000 ∷ [] };
            filt_mean = record { long = 2; written = 0x0000000000000000 ∷ 0x3fc0000000000000 ∷ [] };
            filt_cov = record { long = 4; written = 0x0000000000000000 ∷ 0x0000000000000000 ∷ 0x0000000000000000 ∷ 0x3fe0000000000000 ∷ [] };
            kinds = record { long = 2; written = 1 ∷ 3 ∷ [] };
            v = record { long = 2; written = 0x3fd0000000000000 ∷ 0x0000000000000000 ∷ [] };
            f_star = record { long = 2; written = 0x4000000000000000 ∷ 0x0000000000000000 ∷ [] };
            f_inf = record { long = 2; written = 0x0000000000000000 ∷ 0x0000000000000000 ∷ [] };
            m_star = record { long = 4; written = 0x0000000000000000 ∷ 0x3ff0000000000000 ∷ 0x0000000000000000 ∷ 0x0000000000000000 ∷ [] };
            m_inf = record { long = 4; written = 0x0000000000000000 ∷ 0x0000000000000000 ∷ 0x0000000000000000 ∷ 0x0000000000000000 ∷ [] };
          };
      filter = 0 ∷ 0xbff47f89a3f0edd6 ∷ 0 ∷ 2 ∷ 1 ∷ 0 ∷ 0 ∷ [];
      smooth = 0 ∷ 0xbff47f89a3f0edd6 ∷ 0 ∷ 2 ∷ 1 ∷ 0 ∷ 0 ∷ [];
      sm_mean = record { long = 2; written = 0x0000000000000000 ∷ 0x3fc0000000000000 ∷ [] };
      sm_cov = record { long = 4; written = 0x0000000000000000 ∷ 0x0000000000000000 ∷ 0x0000000000000000 ∷ 0x3fe0000000000000 ∷ [] };
    }
    -- usual; clear before any update; clear by reference; known start
    ∷ record {
      call =
          record {
            p = 2;
            m = 2;
            r = 1;
            n = 1;
            z = 0x3ff0000000000000 ∷ 0xbff0000000000000 ∷ 0x3ff0000000000000 ∷ 0xbff0000000000000 ∷ [];
            zs = [];
            repeats = 0;
            h = 0x3e80000000000000 ∷ 0x0000000000000000 ∷ 0x0000000000000000 ∷ 0x3e70000000000000 ∷ [];
            t = 0x3ff0000000000000 ∷ 0x0000000000000000 ∷ 0x0000000000000000 ∷ 0x3ff0000000000000 ∷ [];
            ts = [];
            rr = 0x3ff0000000000000 ∷ 0x0000000000000000 ∷ [];
            q = 0x0000000000000000 ∷ [];
            c = 0x0000000000000000 ∷ 0x0000000000000000 ∷ [];
            d = 0x0000000000000000 ∷ 0x0000000000000000 ∷ [];
            a1 = 0x0000000000000000 ∷ 0x0000000000000000 ∷ [];
            p_star = 0x3fb0000000000000 ∷ 0x0000000000000000 ∷ 0x0000000000000000 ∷ 0x3fb0000000000000 ∷ [];
            flags = 0 ∷ 0 ∷ [];
            y = 0x0000000000000000 ∷ 0x0000000000000000 ∷ [];
            pred_mean = record { long = 4; written = 0x0000000000000000 ∷ 0x0000000000000000 ∷ 0x0000000000000000 ∷ 0x0000000000000000 ∷ [] };
            pred_cov = record { long = 8; written = 0x3fb0000000000000 ∷ 0x0000000000000000 ∷ 0x0000000000000000 ∷ 0x3fb0000000000000 ∷ 0x3fa000005555538e ∷ 0x3f9fffff555558e4 ∷ 0x3f9fffff555558e4 ∷ 0x3fa000005555538e ∷ [] };
            pred_inf = record { long = 8; written = 0x0000000000000000 ∷ 0x0000000000000000 ∷ 0x0000000000000000 ∷ 0x0000000000000000 ∷ 0x0000000000000000 ∷ 0x0000000000000000 ∷ 0x0000000000000000 ∷ 0x0000000000000000 ∷ [] };
            filt_mean = record { long = 2; written = 0x0000000000000000 ∷ 0x0000000000000000 ∷ [] };
            filt_cov = record { long = 4; written = 0x3fa000005555538e ∷ 0x3f9fffff555558e4 ∷ 0x3f9fffff555558e4 ∷ 0x3fa000005555538e ∷ [] };
            kinds = record { long = 2; written = 1 ∷ 1 ∷ [] };
            v = record { long = 2; written = 0x0000000000000000 ∷ 0x0000000000000000 ∷ [] };
            f_star = record { long = 2; written = 0x3fc0000100000000 ∷ 0x3e87ffff00000000 ∷ [] };
            f_inf = record { long = 2; written = 0x0000000000000000 ∷ 0x0000000000000000 ∷ [] };
            m_star = record { long = 4; written = 0x3fb0000000000000 ∷ 0xbfb0000000000000 ∷ 0x3e6ffffe00000000 ∷ 0xbe6ffffe00000000 ∷ [] };
            m_inf = record { long = 4; written = 0x0000000000000000 ∷ 0x0000000000000000 ∷ 0x0000000000000000 ∷ 0x0000000000000000 ∷ [] };
          };
      filter = 0 ∷ 0x401be197422cc87c ∷ 0 ∷ 2 ∷ 2 ∷ 0 ∷ 0 ∷ [];
      smooth = 0 ∷ 0x401be197422cc87c ∷ 0 ∷ 2 ∷ 2 ∷ 0 ∷ 0 ∷ [];
      sm_mean = record { long = 2; written = 0x0000000000000000 ∷ 0x0000000000000000 ∷ [] };
      sm_cov = record { long = 4; written = 0x3fa000005555538e ∷ 0x3f9fffff555558e4 ∷ 0x3f9fffff555558e4 ∷ 0x3fa000005555538e ∷ [] };
    }
    -- usual; clear before any update; suspect accepted by replay; root built; pivot tie; known start; listed T, of n matrices
    ∷ record {
      call =
          record {
            p = 2;
            m = 2;
            r = 1;
            n = 1;
            z = 0xbfd0000000000000 ∷ 0xc020000000000000 ∷ 0xbfe0000000000000 ∷ 0xc030000000000000 ∷ [];
            zs = [];
            repeats = 0;
            h = 0x0000000000000000 ∷ 0x0000000000000000 ∷ 0x0000000000000000 ∷ 0x3e10000000000000 ∷ [];
            t = [];
            ts = 0x3ff0000000000000 ∷ 0x0000000000000000 ∷ 0x0000000000000000 ∷ 0x3ff0000000000000 ∷ [];
            rr = 0x3ff0000000000000 ∷ 0x0000000000000000 ∷ [];
            q = 0x0000000000000000 ∷ [];
            c = 0x0000000000000000 ∷ 0x0000000000000000 ∷ [];
            d = 0x0000000000000000 ∷ 0x0000000000000000 ∷ [];
            a1 = 0x0000000000000000 ∷ 0x0000000000000000 ∷ [];
            p_star = 0x3fe0000000000000 ∷ 0x0000000000000000 ∷ 0x0000000000000000 ∷ 0x3fe0000000000000 ∷ [];
            flags = 0 ∷ 0 ∷ [];
            y = 0x3ff8000000000000 ∷ 0x0000000000000000 ∷ [];
            pred_mean = record { long = 4; written = 0x0000000000000000 ∷ 0x0000000000000000 ∷ 0xbf77fa017fa017fa ∷ 0xbfc7fa014fa0185a ∷ [] };
            pred_cov = record { long = 8; written = 0x3fe0000000000000 ∷ 0x0000000000000000 ∷ 0x0000000000000000 ∷ 0x3fe0000000000000 ∷ 0x3fdff801ff801ff8 ∷ 0xbf8ff801ff801ff8 ∷ 0xbf8ff801ff801ff8 ∷ 0x3f3ff801ff802000 ∷ [] };
            pred_inf = record { long = 8; written = 0x0000000000000000 ∷ 0x0000000000000000 ∷ 0x0000000000000000 ∷ 0x0000000000000000 ∷ 0x0000000000000000 ∷ 0x0000000000000000 ∷ 0x0000000000000000 ∷ 0x0000000000000000 ∷ [] };
            filt_mean = record { long = 2; written = 0xbf77fa017fa017fa ∷ 0xbfc7fa014fa0185a ∷ [] };
            filt_cov = record { long = 4; written = 0x3fdff801ff801ff8 ∷ 0xbf8ff801ff801ff8 ∷ 0xbf8ff801ff801ff8 ∷ 0x3f3ff801ff802000 ∷ [] };
            kinds = record { long = 2; written = 1 ∷ 1 ∷ [] };
            v = record { long = 2; written = 0x3ff8000000000000 ∷ 0xc008000000000000 ∷ [] };
            f_star = record { long = 2; written = 0x4040040000000000 ∷ 0x3e10000020000000 ∷ [] };
            f_inf = record { long = 2; written = 0x0000000000000000 ∷ 0x0000000000000000 ∷ [] };
            m_star = record { long = 4; written = 0xbfc0000000000000 ∷ 0xc010000000000000 ∷ 0x0000000000000000 ∷ 0xbc60000000000000 ∷ [] };
            m_inf = record { long = 4; written = 0x0000000000000000 ∷ 0x0000000000000000 ∷ 0x0000000000000000 ∷ 0x0000000000000000 ∷ [] };
          };
      filter = 0 ∷ 0xc1f1ffffdb9358f2 ∷ 0 ∷ 2 ∷ 2 ∷ 0 ∷ 0 ∷ [];
      smooth = 0 ∷ 0xc1f1ffffdb9358f2 ∷ 0 ∷ 2 ∷ 2 ∷ 0 ∷ 0 ∷ [];
      sm_mean = record { long = 2; written = 0xbf77fa017fa017fa ∷ 0xbfc7fa014fa017fa ∷ [] };
      sm_cov = record { long = 4; written = 0x3fdff801ff801ff8 ∷ 0xbf8ff801ff801ff8 ∷ 0xbf8ff801ff801ff8 ∷ 0x3f3ff801ff802000 ∷ [] };
    }
    -- usual; clear before any update; suspect accepted by replay; root built; rank short; known start
    ∷ record {
      call =
          record {
            p = 2;
            m = 2;
            r = 1;
            n = 1;
            z = 0xc010000000000000 ∷ 0x4000000000000000 ∷ 0x3ffc000000000000 ∷ 0x4010000000000000 ∷ [];
            zs = [];
            repeats = 0;
            h = 0x3d50000000000000 ∷ 0x0000000000000000 ∷ 0x0000000000000000 ∷ 0x3e80000000000000 ∷ [];
            t = 0x3ff0000000000000 ∷ 0x0000000000000000 ∷ 0x0000000000000000 ∷ 0x3ff0000000000000 ∷ [];
            ts = [];
            rr = 0x3ff0000000000000 ∷ 0x0000000000000000 ∷ [];
            q = 0x0000000000000000 ∷ [];
            c = 0x0000000000000000 ∷ 0x0000000000000000 ∷ [];
            d = 0x0000000000000000 ∷ 0x0000000000000000 ∷ [];
            a1 = 0x0000000000000000 ∷ 0x0000000000000000 ∷ [];
            p_star = 0x4030000000000000 ∷ 0x0000000000000000 ∷ 0x0000000000000000 ∷ 0x0000000000000000 ∷ [];
            flags = 0 ∷ 0 ∷ [];
            y = 0xc010000000000000 ∷ 0xbff0000000000000 ∷ [];
            pred_mean = record { long = 4; written = 0x0000000000000000 ∷ 0x0000000000000000 ∷ 0x3feffffecc000756 ∷ 0x0000000000000000 ∷ [] };
            pred_cov = record { long = 8; written = 0x4030000000000000 ∷ 0x0000000000000000 ∷ 0x0000000000000000 ∷ 0x0000000000000000 ∷ 0x3d0fffff3c0004b0 ∷ 0x0000000000000000 ∷ 0x0000000000000000 ∷ 0x0000000000000000 ∷ [] };
            pred_inf = record { long = 8; written = 0x0000000000000000 ∷ 0x0000000000000000 ∷ 0x0000000000000000 ∷ 0x0000000000000000 ∷ 0x0000000000000000 ∷ 0x0000000000000000 ∷ 0x0000000000000000 ∷ 0x0000000000000000 ∷ [] };
            filt_mean = record { long = 2; written = 0x3feffffecc000756 ∷ 0x0000000000000000 ∷ [] };
            filt_cov = record { long = 4; written = 0x3d0fffff3c0004b0 ∷ 0x0000000000000000 ∷ 0x0000000000000000 ∷ 0x0000000000000000 ∷ [] };
            kinds = record { long = 2; written = 1 ∷ 1 ∷ [] };
            v = record { long = 2; written = 0xc010000000000000 ∷ 0xc005fffffffffffc ∷ [] };
            f_star = record { long = 2; written = 0x4070000000000004 ∷ 0x3e80000062000000 ∷ [] };
            f_inf = record { long = 2; written = 0x0000000000000000 ∷ 0x0000000000000000 ∷ [] };
            m_star = record { long = 4; written = 0xc050000000000000 ∷ 0x0000000000000000 ∷ 0x3d1c000000000000 ∷ 0x0000000000000000 ∷ [] };
            m_inf = record { long = 4; written = 0x0000000000000000 ∷ 0x0000000000000000 ∷ 0x0000000000000000 ∷ 0x0000000000000000 ∷ [] };
          };
      filter = 0 ∷ 0xc17e3fff11727b21 ∷ 0 ∷ 2 ∷ 2 ∷ 0 ∷ 0 ∷ [];
      smooth = 0 ∷ 0xc17e3fff11727b21 ∷ 0 ∷ 2 ∷ 2 ∷ 0 ∷ 0 ∷ [];
      sm_mean = record { long = 2; written = 0x3feffffecc000756 ∷ 0x0000000000000000 ∷ [] };
      sm_cov = record { long = 4; written = 0x3d10000000000000 ∷ 0x0000000000000000 ∷ 0x0000000000000000 ∷ 0x0000000000000000 ∷ [] };
    }
    -- refusal 7
    ∷ record {
      call =
          record {
            p = 1;
            m = 2;
            r = 1;
            n = 1;
            z = 0x0000000000000000 ∷ 0x0000000000000000 ∷ [];
            zs = [];
            repeats = 76;
            h = 0x0000000000000000 ∷ [];
            t = 0x3ff0000000000000 ∷ 0x0000000000000000 ∷ 0x0000000000000000 ∷ 0x3ff0000000000000 ∷ [];
            ts = [];
            rr = 0x3ff8000000000000 ∷ 0x3ff8000000000000 ∷ [];
            q = 0x4000000000000000 ∷ [];
            c = 0x0000000000000000 ∷ 0x0000000000000000 ∷ [];
            d = 0x0000000000000000 ∷ [];
            a1 = 0x0000000000000000 ∷ 0x0000000000000000 ∷ [];
            p_star = 0x3ff0000000000000 ∷ 0x0000000000000000 ∷ 0x0000000000000000 ∷ 0x0000000000000000 ∷ [];
            flags = 0 ∷ 128 ∷ [];
            y = 0x3fe0000000000000 ∷ [];
            pred_mean = record { long = 4; written = [] };
            pred_cov = record { long = 8; written = [] };
            pred_inf = record { long = 8; written = [] };
            filt_mean = record { long = 2; written = [] };
            filt_cov = record { long = 4; written = [] };
            kinds = record { long = 1; written = [] };
            v = record { long = 1; written = [] };
            f_star = record { long = 1; written = [] };
            f_inf = record { long = 1; written = [] };
            m_star = record { long = 2; written = [] };
            m_inf = record { long = 2; written = [] };
          };
      filter = 7 ∷ [];
      smooth = 7 ∷ [];
      sm_mean = record { long = 2; written = [] };
      sm_cov = record { long = 4; written = [] };
    }
    -- refusal 10
    ∷ record {
      call =
          record {
            p = 1;
            m = 2;
            r = 1;
            n = 1;
            z = 0x0000000000000000 ∷ 0x0000000000000000 ∷ [];
            zs = [];
            repeats = 213;
            h = 0x0000000000000000 ∷ [];
            t = 0x3ff0000000000000 ∷ 0xbfe0000000000000 ∷ 0x0000000000000000 ∷ 0x3ff0000000000000 ∷ [];
            ts = [];
            rr = 0x3fe0000000000000 ∷ 0x3fe0000000000000 ∷ [];
            q = 0x3ff0000000000000 ∷ [];
            c = 0x0000000000000000 ∷ 0x0000000000000000 ∷ [];
            d = 0x0000000000000000 ∷ [];
            a1 = 0x0000000000000000 ∷ 0x0000000000000000 ∷ [];
            p_star = 0x3ff0000000000000 ∷ 0x0000000000000000 ∷ 0x0000000000000000 ∷ 0x0000000000000000 ∷ [];
            flags = 0 ∷ 1 ∷ [];
            y = 0x4000000000000000 ∷ [];
            pred_mean = record { long = 4; written = [] };
            pred_cov = record { long = 8; written = [] };
            pred_inf = record { long = 8; written = [] };
            filt_mean = record { long = 2; written = [] };
            filt_cov = record { long = 4; written = [] };
            kinds = record { long = 1; written = [] };
            v = record { long = 1; written = [] };
            f_star = record { long = 1; written = [] };
            f_inf = record { long = 1; written = [] };
            m_star = record { long = 2; written = [] };
            m_inf = record { long = 2; written = [] };
          };
      filter = 10 ∷ [];
      smooth = 10 ∷ [];
      sm_mean = record { long = 2; written = [] };
      sm_cov = record { long = 4; written = [] };
    }
    -- usual; clear before any update; suspect accepted by replay; root built; rank zero; downdate that returns early; signed zero in an output; known start
    ∷ record {
      call =
          record {
            p = 2;
            m = 2;
            r = 1;
            n = 1;
            z = 0x3ff0000000000000 ∷ 0x3ff0000000000000 ∷ 0x3ff0000000000000 ∷ 0x4008000000000000 ∷ [];
            zs = [];
            repeats = 0;
            h = 0x0000000000000000 ∷ 0x0000000000000000 ∷ 0x0000000000000000 ∷ 0x3fb0000080000000 ∷ [];
            t = 0x3ff0000000000000 ∷ 0x0000000000000000 ∷ 0x0000000000000000 ∷ 0x3ff0000000000000 ∷ [];
            ts = [];
            rr = 0x3ff0000000000000 ∷ 0x0000000000000000 ∷ [];
            q = 0x0000000000000000 ∷ [];
            c = 0x0000000000000000 ∷ 0x0000000000000000 ∷ [];
            d = 0x0000000000000000 ∷ 0x0000000000000000 ∷ [];
            a1 = 0x0000000000000000 ∷ 0x0000000000000000 ∷ [];
            p_star = 0x0000000000000000 ∷ 0x3fa0000000000000 ∷ 0x3fa0000000000000 ∷ 0x0000000000000000 ∷ [];
            flags = 0 ∷ 0 ∷ [];
            y = 0x8000000000000000 ∷ 0x0000000000000000 ∷ [];
            pred_mean = record { long = 4; written = 0x0000000000000000 ∷ 0x0000000000000000 ∷ 0x0000000000000000 ∷ 0x0000000000000000 ∷ [] };
            pred_cov = record { long = 8; written = 0x0000000000000000 ∷ 0x3fa0000000000000 ∷ 0x3fa0000000000000 ∷ 0x0000000000000000 ∷ 0xc0e0000080000000 ∷ 0x40e0000080000000 ∷ 0x40e0000080000000 ∷ 0xc0e0000080000000 ∷ [] };
            pred_inf = record { long = 8; written = 0x0000000000000000 ∷ 0x0000000000000000 ∷ 0x0000000000000000 ∷ 0x0000000000000000 ∷ 0x0000000000000000 ∷ 0x0000000000000000 ∷ 0x0000000000000000 ∷ 0x0000000000000000 ∷ [] };
            filt_mean = record { long = 2; written = 0x0000000000000000 ∷ 0x0000000000000000 ∷ [] };
            filt_cov = record { long = 4; written = 0xc0e0000080000000 ∷ 0x40e0000080000000 ∷ 0x40e0000080000000 ∷ 0xc0e0000080000000 ∷ [] };
            kinds = record { long = 2; written = 1 ∷ 1 ∷ [] };
            v = record { long = 2; written = 0x8000000000000000 ∷ 0x0000000000000000 ∷ [] };
            f_star = record { long = 2; written = 0x3fb0000000000000 ∷ 0x3e60000000000000 ∷ [] };
            f_inf = record { long = 2; written = 0x0000000000000000 ∷ 0x0000000000000000 ∷ [] };
            m_star = record { long = 4; written = 0x3fa0000000000000 ∷ 0x3fa0000000000000 ∷ 0x3fa0000000000000 ∷ 0xbfa0000000000000 ∷ [] };
            m_inf = record { long = 4; written = 0x0000000000000000 ∷ 0x0000000000000000 ∷ 0x0000000000000000 ∷ 0x0000000000000000 ∷ [] };
          };
      filter = 0 ∷ 0x40206cee7e062cab ∷ 0 ∷ 2 ∷ 2 ∷ 0 ∷ 0 ∷ [];
      smooth = 0 ∷ 0x40206cee7e062cab ∷ 0 ∷ 2 ∷ 2 ∷ 0 ∷ 0 ∷ [];
      sm_mean = record { long = 2; written = 0x0000000000000000 ∷ 0x0000000000000000 ∷ [] };
      sm_cov = record { long = 4; written = 0xc0e0000080000000 ∷ 0x40e0000080000000 ∷ 0x40e0000080000000 ∷ 0xc0e0000080000000 ∷ [] };
    }
    -- usual; clear before any update; suspect accepted in a diffuse period; place n's diffuse covariance non-zero; mixed start; listed T, of n matrices
    ∷ record {
      call =
          record {
            p = 2;
            m = 2;
            r = 1;
            n = 1;
            z = 0xc024000000000000 ∷ 0x0000000000000000 ∷ 0xbff0000000000000 ∷ 0x0000000000000000 ∷ [];
            zs = [];
            repeats = 0;
            h = 0x0000000000000000 ∷ 0x0000000000000000 ∷ 0x0000000000000000 ∷ 0x3dd0000000000000 ∷ [];
            t = [];
            ts = 0x3ff0000000000000 ∷ 0x0000000000000000 ∷ 0x0000000000000000 ∷ 0x3ff0000000000000 ∷ [];
            rr = 0x3ff0000000000000 ∷ 0x0000000000000000 ∷ [];
            q = 0x0000000000000000 ∷ [];
            c = 0x0000000000000000 ∷ 0x0000000000000000 ∷ [];
            d = 0x0000000000000000 ∷ 0x0000000000000000 ∷ [];
            a1 = 0x0000000000000000 ∷ 0x0000000000000000 ∷ [];
            p_star = 0x4010000000000000 ∷ 0x0000000000000000 ∷ 0x0000000000000000 ∷ 0x0000000000000000 ∷ [];
            flags = 0 ∷ 1 ∷ [];
            y = 0x3ff0000000000000 ∷ 0xc010000000000000 ∷ [];
            pred_mean = record { long = 4; written = 0x0000000000000000 ∷ 0x0000000000000000 ∷ 0xbfb999999999999a ∷ 0x0000000000000000 ∷ [] };
            pred_cov = record { long = 8; written = 0x4010000000000000 ∷ 0x0000000000000000 ∷ 0x0000000000000000 ∷ 0x0000000000000000 ∷ 0x0000000000000000 ∷ 0x0000000000000000 ∷ 0x0000000000000000 ∷ 0x0000000000000000 ∷ [] };
            pred_inf = record { long = 8; written = 0x0000000000000000 ∷ 0x0000000000000000 ∷ 0x0000000000000000 ∷ 0x3ff0000000000000 ∷ 0x0000000000000000 ∷ 0x0000000000000000 ∷ 0x0000000000000000 ∷ 0x3ff0000000000000 ∷ [] };
            filt_mean = record { long = 2; written = 0xbfb999999999999a ∷ 0x0000000000000000 ∷ [] };
            filt_cov = record { long = 4; written = 0x0000000000000000 ∷ 0x0000000000000000 ∷ 0x0000000000000000 ∷ 0x0000000000000000 ∷ [] };
            kinds = record { long = 2; written = 1 ∷ 1 ∷ [] };
            v = record { long = 2; written = 0x3ff0000000000000 ∷ 0xc010666666666666 ∷ [] };
            f_star = record { long = 2; written = 0x4079000000000000 ∷ 0x3dd0000000000000 ∷ [] };
            f_inf = record { long = 2; written = 0x0000000000000000 ∷ 0x0000000000000000 ∷ [] };
            m_star = record { long = 4; written = 0xc044000000000000 ∷ 0x0000000000000000 ∷ 0x0000000000000000 ∷ 0x0000000000000000 ∷ [] };
            m_inf = record { long = 4; written = 0x0000000000000000 ∷ 0x0000000000000000 ∷ 0x0000000000000000 ∷ 0x0000000000000000 ∷ [] };
          };
      filter = 0 ∷ 0xc240cf5c28f24922 ∷ 1 ∷ 2 ∷ 2 ∷ 0 ∷ 0 ∷ [];
      smooth = 0 ∷ 0xc240cf5c28f24922 ∷ 1 ∷ 2 ∷ 2 ∷ 0 ∷ 0 ∷ [];
      sm_mean = record { long = 2; written = 0xbfb999999999999a ∷ 0x0000000000000000 ∷ [] };
      sm_cov = record { long = 4; written = 0x0000000000000000 ∷ 0x0000000000000000 ∷ 0x0000000000000000 ∷ 0x0000000000000000 ∷ [] };
    }
    -- refusal 11
    ∷ record {
      call =
          record {
            p = 1;
            m = 2;
            r = 1;
            n = 1;
            z = 0x0000000000000000 ∷ 0x0000000000000000 ∷ [];
            zs = [];
            repeats = 1;
            h = 0x0000000000000000 ∷ [];
            t = 0x3ff0000000000000 ∷ 0x0000000000000000 ∷ 0x0000000000000000 ∷ 0x3ff0000000000000 ∷ [];
            ts = [];
            rr = 0x3ff0000000000000 ∷ 0x3ff0000000000000 ∷ [];
            q = 0x7feab36d48e1acf0 ∷ [];
            c = 0x0000000000000000 ∷ 0x0000000000000000 ∷ [];
            d = 0x0000000000000000 ∷ [];
            a1 = 0x0000000000000000 ∷ 0x0000000000000000 ∷ [];
            p_star = 0x3ff0000000000000 ∷ 0x0000000000000000 ∷ 0x0000000000000000 ∷ 0x0000000000000000 ∷ [];
            flags = 0 ∷ 1 ∷ [];
            y = 0x3ff0000000000000 ∷ [];
            pred_mean = record { long = 4; written = [] };
            pred_cov = record { long = 8; written = [] };
            pred_inf = record { long = 8; written = [] };
            filt_mean = record { long = 2; written = [] };
            filt_cov = record { long = 4; written = [] };
            kinds = record { long = 1; written = [] };
            v = record { long = 1; written = [] };
            f_star = record { long = 1; written = [] };
            f_inf = record { long = 1; written = [] };
            m_star = record { long = 2; written = [] };
            m_inf = record { long = 2; written = [] };
          };
      filter = 11 ∷ [];
      smooth = 11 ∷ [];
      sm_mean = record { long = 2; written = [] };
      sm_cov = record { long = 4; written = [] };
    }
    -- usual; skipped by its scale; clear before any update; below; skipped by its scale, and below too; place n's diffuse covariance non-zero; mixed start; listed T, of n matrices; skipped by its scale in a diffuse period; below in a diffuse period
    ∷ record {
      call =
          record {
            p = 3;
            m = 2;
            r = 1;
            n = 1;
            z = 0x3ff0000000000000 ∷ 0x0000000000000000 ∷ 0x3ff0000000000000 ∷ 0x0000000000000000 ∷ 0x3ff0000000000000 ∷ 0x0000000000000000 ∷ [];
            zs = [];
            repeats = 0;
            h = 0x0000000000000000 ∷ 0x0000000000000000 ∷ 0x0000000000000000 ∷ 0x0000000000000000 ∷ 0x3c50000000000000 ∷ 0x0000000000000000 ∷ 0x0000000000000000 ∷ 0x0000000000000000 ∷ 0x0000000000000000 ∷ [];
            t = [];
            ts = 0x3ff0000000000000 ∷ 0x0000000000000000 ∷ 0x0000000000000000 ∷ 0x3ff0000000000000 ∷ [];
            rr = 0x3ff0000000000000 ∷ 0x0000000000000000 ∷ [];
            q = 0x0000000000000000 ∷ [];
            c = 0x0000000000000000 ∷ 0x0000000000000000 ∷ [];
            d = 0x0000000000000000 ∷ 0x0000000000000000 ∷ 0x0000000000000000 ∷ [];
            a1 = 0x0000000000000000 ∷ 0x0000000000000000 ∷ [];
            p_star = 0x3fc0000000000000 ∷ 0x0000000000000000 ∷ 0x0000000000000000 ∷ 0x0000000000000000 ∷ [];
            flags = 0 ∷ 1 ∷ [];
            y = 0x0000000000000000 ∷ 0x0000000000000000 ∷ 0x0000000000000000 ∷ [];
            pred_mean = record { long = 4; written = 0x0000000000000000 ∷ 0x0000000000000000 ∷ 0x0000000000000000 ∷ 0x0000000000000000 ∷ [] };
            pred_cov = record { long = 8; written = 0x3fc0000000000000 ∷ 0x0000000000000000 ∷ 0x0000000000000000 ∷ 0x0000000000000000 ∷ 0x0000000000000000 ∷ 0x0000000000000000 ∷ 0x0000000000000000 ∷ 0x0000000000000000 ∷ [] };
            pred_inf = record { long = 8; written = 0x0000000000000000 ∷ 0x0000000000000000 ∷ 0x0000000000000000 ∷ 0x3ff0000000000000 ∷ 0x0000000000000000 ∷ 0x0000000000000000 ∷ 0x0000000000000000 ∷ 0x3ff0000000000000 ∷ [] };
            filt_mean = record { long = 2; written = 0x0000000000000000 ∷ 0x0000000000000000 ∷ [] };
            filt_cov = record { long = 4; written = 0x0000000000000000 ∷ 0x0000000000000000 ∷ 0x0000000000000000 ∷ 0x0000000000000000 ∷ [] };
            kinds = record { long = 3; written = 1 ∷ 4 ∷ 3 ∷ [] };
            v = record { long = 3; written = 0x0000000000000000 ∷ 0x0000000000000000 ∷ 0x0000000000000000 ∷ [] };
            f_star = record { long = 3; written = 0x3fc0000000000000 ∷ 0x0000000000000000 ∷ 0x0000000000000000 ∷ [] };
            f_inf = record { long = 3; written = 0x0000000000000000 ∷ 0x0000000000000000 ∷ 0x0000000000000000 ∷ [] };
            m_star = record { long = 6; written = 0x3fc0000000000000 ∷ 0x0000000000000000 ∷ 0x0000000000000000 ∷ 0x0000000000000000 ∷ 0x0000000000000000 ∷ 0x0000000000000000 ∷ [] };
            m_inf = record { long = 6; written = 0x0000000000000000 ∷ 0x0000000000000000 ∷ 0x0000000000000000 ∷ 0x0000000000000000 ∷ 0x0000000000000000 ∷ 0x0000000000000000 ∷ [] };
          };
      filter = 0 ∷ 0x3fbeeb95b094c190 ∷ 1 ∷ 3 ∷ 1 ∷ 0 ∷ 0 ∷ [];
      smooth = 0 ∷ 0x3fbeeb95b094c190 ∷ 1 ∷ 3 ∷ 1 ∷ 0 ∷ 0 ∷ [];
      sm_mean = record { long = 2; written = 0x0000000000000000 ∷ 0x0000000000000000 ∷ [] };
      sm_cov = record { long = 4; written = 0x0000000000000000 ∷ 0x0000000000000000 ∷ 0x0000000000000000 ∷ 0x0000000000000000 ∷ [] };
    }
    -- refusal 14
    ∷ record {
      call =
          record {
            p = 1;
            m = 2;
            r = 1;
            n = 2;
            z = [];
            zs = 0x3ff0000000000000 ∷ 0x0000000000000000 ∷ [];
            repeats = 0;
            h = 0x3ff0000000000000 ∷ [];
            t = 0x3ff0000000000000 ∷ 0x0000000000000000 ∷ 0x0000000000000000 ∷ 0x3ff0000000000000 ∷ [];
            ts = [];
            rr = 0x3ff0000000000000 ∷ 0x0000000000000000 ∷ [];
            q = 0x0000000000000000 ∷ [];
            c = 0x0000000000000000 ∷ 0x0000000000000000 ∷ [];
            d = 0x0000000000000000 ∷ [];
            a1 = 0x0000000000000000 ∷ 0x0000000000000000 ∷ [];
            p_star = 0x0000000000000000 ∷ 0x0000000000000000 ∷ 0x0000000000000000 ∷ 0x0000000000000000 ∷ [];
            flags = 0 ∷ 0 ∷ [];
            y = 0x3ff0000000000000 ∷ 0x3ff0000000000000 ∷ [];
            pred_mean = record { long = 6; written = [] };
            pred_cov = record { long = 12; written = [] };
            pred_inf = record { long = 12; written = [] };
            filt_mean = record { long = 4; written = [] };
            filt_cov = record { long = 8; written = [] };
            kinds = record { long = 2; written = [] };
            v = record { long = 2; written = [] };
            f_star = record { long = 2; written = [] };
            f_inf = record { long = 2; written = [] };
            m_star = record { long = 4; written = [] };
            m_inf = record { long = 4; written = [] };
          };
      filter = 14 ∷ [];
      smooth = 14 ∷ [];
      sm_mean = record { long = 4; written = [] };
      sm_cov = record { long = 8; written = [] };
    }
    -- refusal 2; refusal 2 by T's reach
    ∷ record {
      call =
          record {
            p = 1;
            m = 2;
            r = 1;
            n = 2;
            z = 0x3ff0000000000000 ∷ 0x0000000000000000 ∷ [];
            zs = [];
            repeats = 43;
            h = 0x3ff0000000000000 ∷ [];
            t = [];
            ts = 0x3ff4000000000000 ∷ 0x3fd0000000000000 ∷ 0x3fd0000000000000 ∷ 0x3ff4000000000000 ∷ [];
            rr = 0x3ff0000000000000 ∷ 0x0000000000000000 ∷ [];
            q = 0x3fe0000000000000 ∷ [];
            c = 0x0000000000000000 ∷ 0x0000000000000000 ∷ [];
            d = 0x0000000000000000 ∷ [];
            a1 = 0x0000000000000000 ∷ 0x0000000000000000 ∷ [];
            p_star = 0x3ff0000000000000 ∷ 0x0000000000000000 ∷ 0x0000000000000000 ∷ 0x0000000000000000 ∷ [];
            flags = 0 ∷ 0 ∷ [];
            y = 0x3ff0000000000000 ∷ 0x4000000000000000 ∷ [];
            pred_mean = record { long = 6; written = [] };
            pred_cov = record { long = 12; written = [] };
            pred_inf = record { long = 12; written = [] };
            filt_mean = record { long = 4; written = [] };
            filt_cov = record { long = 8; written = [] };
            kinds = record { long = 2; written = [] };
            v = record { long = 2; written = [] };
            f_star = record { long = 2; written = [] };
            f_inf = record { long = 2; written = [] };
            m_star = record { long = 4; written = [] };
            m_inf = record { long = 4; written = [] };
          };
      filter = 2 ∷ [];
      smooth = 2 ∷ [];
      sm_mean = record { long = 4; written = [] };
      sm_cov = record { long = 8; written = [] };
    }
    -- usual; clear before any update; known start; listed T, of n matrices; listed T that varies, smoothed
    ∷ record {
      call =
          record {
            p = 1;
            m = 2;
            r = 1;
            n = 2;
            z = 0x3ff0000000000000 ∷ 0x0000000000000000 ∷ [];
            zs = [];
            repeats = 0;
            h = 0x3ff0000000000000 ∷ [];
            t = [];
            ts = 0x3ff4000000000000 ∷ 0x3fd0000000000000 ∷ 0x3fd0000000000000 ∷ 0x3ff4000000000000 ∷ 0x3ff8000000000000 ∷ 0x3fe0000000000000 ∷ 0x3fe0000000000000 ∷ 0x3ff8000000000000 ∷ [];
            rr = 0x3ff0000000000000 ∷ 0x0000000000000000 ∷ [];
            q = 0x3fe0000000000000 ∷ [];
            c = 0x0000000000000000 ∷ 0x0000000000000000 ∷ [];
            d = 0x0000000000000000 ∷ [];
            a1 = 0x0000000000000000 ∷ 0x0000000000000000 ∷ [];
            p_star = 0x3ff0000000000000 ∷ 0x0000000000000000 ∷ 0x0000000000000000 ∷ 0x0000000000000000 ∷ [];
            flags = 0 ∷ 0 ∷ [];
            y = 0x4010000000000000 ∷ 0x3ff0000000000000 ∷ [];
            pred_mean = record { long = 6; written = 0x0000000000000000 ∷ 0x0000000000000000 ∷ 0x4004000000000000 ∷ 0x3fe0000000000000 ∷ 0x40057abd5eaf57ac ∷ 0x3ff6cb65b2d96cb6 ∷ [] };
            pred_cov = record { long = 12; written = 0x3ff0000000000000 ∷ 0x0000000000000000 ∷ 0x0000000000000000 ∷ 0x0000000000000000 ∷ 0x3ff4800000000000 ∷ 0x3fc4000000000000 ∷ 0x3fc4000000000000 ∷ 0x3fa0000000000000 ∷ 0x3ffdf1f8fc7e3f20 ∷ 0x3fe373b9dcee773c ∷ 0x3fe373b9dcee773c ∷ 0x3fd28542a150a854 ∷ [] };
            pred_inf = record { long = 12; written = 0x0000000000000000 ∷ 0x0000000000000000 ∷ 0x0000000000000000 ∷ 0x0000000000000000 ∷ 0x0000000000000000 ∷ 0x0000000000000000 ∷ 0x0000000000000000 ∷ 0x0000000000000000 ∷ 0x0000000000000000 ∷ 0x0000000000000000 ∷ 0x0000000000000000 ∷ 0x0000000000000000 ∷ [] };
            filt_mean = record { long = 4; written = 0x4000000000000000 ∷ 0x0000000000000000 ∷ 0x3ffa8542a150a854 ∷ 0x3fd96cb65b2d96cc ∷ [] };
            filt_cov = record { long = 8; written = 0x3fe0000000000000 ∷ 0x0000000000000000 ∷ 0x0000000000000000 ∷ 0x0000000000000000 ∷ 0x3fe1f8fc7e3f1f90 ∷ 0x3fb188c46231188c ∷ 0x3fb188c46231188c ∷ 0x3f950a8542a150a8 ∷ [] };
            kinds = record { long = 2; written = 1 ∷ 1 ∷ [] };
            v = record { long = 2; written = 0x4010000000000000 ∷ 0xbff8000000000000 ∷ [] };
            f_star = record { long = 2; written = 0x4000000000000000 ∷ 0x4002400000000000 ∷ [] };
            f_inf = record { long = 2; written = 0x0000000000000000 ∷ 0x0000000000000000 ∷ [] };
            m_star = record { long = 4; written = 0x3ff0000000000000 ∷ 0x0000000000000000 ∷ 0x3ff4800000000000 ∷ 0x3fc4000000000000 ∷ [] };
            m_inf = record { long = 4; written = 0x0000000000000000 ∷ 0x0000000000000000 ∷ 0x0000000000000000 ∷ 0x0000000000000000 ∷ [] };
          };
      filter = 0 ∷ 0xc01c5c1f4a2ad8b5 ∷ 0 ∷ 2 ∷ 2 ∷ 0 ∷ 0 ∷ [];
      smooth = 0 ∷ 0xc01c5c1f4a2ad8b5 ∷ 0 ∷ 2 ∷ 2 ∷ 0 ∷ 0 ∷ [];
      sm_mean = record { long = 4; written = 0x3ff96cb65b2d96cc ∷ 0x0000000000000000 ∷ 0x3ffa8542a150a854 ∷ 0x3fd96cb65b2d96cc ∷ [] };
      sm_cov = record { long = 8; written = 0x3fd50a8542a150a8 ∷ 0x0000000000000000 ∷ 0x0000000000000000 ∷ 0x0000000000000000 ∷ 0x3fe1f8fc7e3f1f90 ∷ 0x3fb188c46231188c ∷ 0x3fb188c46231188c ∷ 0x3f950a8542a150a8 ∷ [] };
    }
    -- usual; clear before any update; d_diffuse over 1; place n's diffuse covariance non-zero; mixed start; listed T, longer than n; listed T that varies, smoothed
    ∷ record {
      call =
          record {
            p = 1;
            m = 2;
            r = 1;
            n = 2;
            z = 0x3ff0000000000000 ∷ 0x0000000000000000 ∷ [];
            zs = [];
            repeats = 0;
            h = 0x3ff0000000000000 ∷ [];
            t = [];
            ts = 0x3ff0000000000000 ∷ 0x0000000000000000 ∷ 0x0000000000000000 ∷ 0x3ff0000000000000 ∷ 0x3ff0000000000000 ∷ 0x3fe0000000000000 ∷ 0x0000000000000000 ∷ 0x3ff0000000000000 ∷ 0x3ff0000000000000 ∷ 0x0000000000000000 ∷ 0x0000000000000000 ∷ 0x3ff0000000000000 ∷ [];
            rr = 0x3ff0000000000000 ∷ 0x0000000000000000 ∷ [];
            q = 0x0000000000000000 ∷ [];
            c = 0x0000000000000000 ∷ 0x0000000000000000 ∷ [];
            d = 0x0000000000000000 ∷ [];
            a1 = 0x0000000000000000 ∷ 0x0000000000000000 ∷ [];
            p_star = 0x3ff0000000000000 ∷ 0x0000000000000000 ∷ 0x0000000000000000 ∷ 0x0000000000000000 ∷ [];
            flags = 0 ∷ 1 ∷ [];
            y = 0x4000000000000000 ∷ 0x4010000000000000 ∷ [];
            pred_mean = record { long = 6; written = 0x0000000000000000 ∷ 0x0000000000000000 ∷ 0x3ff0000000000000 ∷ 0x0000000000000000 ∷ 0x4000000000000000 ∷ 0x0000000000000000 ∷ [] };
            pred_cov = record { long = 12; written = 0x3ff0000000000000 ∷ 0x0000000000000000 ∷ 0x0000000000000000 ∷ 0x0000000000000000 ∷ 0x3fe0000000000000 ∷ 0x0000000000000000 ∷ 0x0000000000000000 ∷ 0x0000000000000000 ∷ 0x3fd5555555555556 ∷ 0x0000000000000000 ∷ 0x0000000000000000 ∷ 0x0000000000000000 ∷ [] };
            pred_inf = record { long = 12; written = 0x0000000000000000 ∷ 0x0000000000000000 ∷ 0x0000000000000000 ∷ 0x3ff0000000000000 ∷ 0x0000000000000000 ∷ 0x0000000000000000 ∷ 0x0000000000000000 ∷ 0x3ff0000000000000 ∷ 0x3fd0000000000000 ∷ 0x3fe0000000000000 ∷ 0x3fe0000000000000 ∷ 0x3ff0000000000000 ∷ [] };
            filt_mean = record { long = 4; written = 0x3ff0000000000000 ∷ 0x0000000000000000 ∷ 0x4000000000000000 ∷ 0x0000000000000000 ∷ [] };
            filt_cov = record { long = 8; written = 0x3fe0000000000000 ∷ 0x0000000000000000 ∷ 0x0000000000000000 ∷ 0x0000000000000000 ∷ 0x3fd5555555555556 ∷ 0x0000000000000000 ∷ 0x0000000000000000 ∷ 0x0000000000000000 ∷ [] };
            kinds = record { long = 2; written = 1 ∷ 1 ∷ [] };
            v = record { long = 2; written = 0x4000000000000000 ∷ 0x4008000000000000 ∷ [] };
            f_star = record { long = 2; written = 0x4000000000000000 ∷ 0x3ff8000000000000 ∷ [] };
            f_inf = record { long = 2; written = 0x0000000000000000 ∷ 0x0000000000000000 ∷ [] };
            m_star = record { long = 4; written = 0x3ff0000000000000 ∷ 0x0000000000000000 ∷ 0x3fe0000000000000 ∷ 0x0000000000000000 ∷ [] };
            m_inf = record { long = 4; written = 0x0000000000000000 ∷ 0x0000000000000000 ∷ 0x0000000000000000 ∷ 0x0000000000000000 ∷ [] };
          };
      filter = 0 ∷ 0xc0198c79c16ed00e ∷ 2 ∷ 2 ∷ 2 ∷ 0 ∷ 0 ∷ [];
      smooth = 0 ∷ 0xc0198c79c16ed00e ∷ 2 ∷ 2 ∷ 2 ∷ 0 ∷ 0 ∷ [];
      sm_mean = record { long = 4; written = 0x4000000000000000 ∷ 0x0000000000000000 ∷ 0x4000000000000000 ∷ 0x0000000000000000 ∷ [] };
      sm_cov = record { long = 8; written = 0x3fd5555555555556 ∷ 0x0000000000000000 ∷ 0x0000000000000000 ∷ 0x0000000000000000 ∷ 0x3fd5555555555556 ∷ 0x0000000000000000 ∷ 0x0000000000000000 ∷ 0x0000000000000000 ∷ [] };
    }
    -- diffuse; diffuse refused by the root; usual; clear by bound; exactly at a tolerance; place n's diffuse covariance non-zero; diffuse start; listed T, of n matrices
    ∷ record {
      call =
          record {
            p = 2;
            m = 2;
            r = 1;
            n = 1;
            z = 0x3ff0000000000000 ∷ 0x0000000000000000 ∷ 0x3ff5aacaa87380b6 ∷ 0x3e822cfc6edbec00 ∷ [];
            zs = [];
            repeats = 0;
            h = 0x3ff0000000000000 ∷ 0x0000000000000000 ∷ 0x0000000000000000 ∷ 0x3ff0000000000000 ∷ [];
            t = [];
            ts = 0x3ff0000000000000 ∷ 0x0000000000000000 ∷ 0x0000000000000000 ∷ 0x3ff0000000000000 ∷ [];
            rr = 0x3ff0000000000000 ∷ 0x0000000000000000 ∷ [];
            q = 0x0000000000000000 ∷ [];
            c = 0x0000000000000000 ∷ 0x0000000000000000 ∷ [];
            d = 0x0000000000000000 ∷ 0x0000000000000000 ∷ [];
            a1 = 0x0000000000000000 ∷ 0x0000000000000000 ∷ [];
            p_star = 0x0000000000000000 ∷ 0x0000000000000000 ∷ 0x0000000000000000 ∷ 0x0000000000000000 ∷ [];
            flags = 1 ∷ 1 ∷ [];
            y = 0xbffc000000000000 ∷ 0x0000000000000000 ∷ [];
            pred_mean = record { long = 4; written = 0x0000000000000000 ∷ 0x0000000000000000 ∷ 0xbfe3c2d79c25a7c6 ∷ 0x0000000000000000 ∷ [] };
            pred_cov = record { long = 8; written = 0x0000000000000000 ∷ 0x0000000000000000 ∷ 0x0000000000000000 ∷ 0x0000000000000000 ∷ 0x3fd69588b2742d72 ∷ 0x0000000000000000 ∷ 0x0000000000000000 ∷ 0x0000000000000000 ∷ [] };
            pred_inf = record { long = 8; written = 0x3ff0000000000000 ∷ 0x0000000000000000 ∷ 0x0000000000000000 ∷ 0x3ff0000000000000 ∷ 0x0000000000000000 ∷ 0x0000000000000000 ∷ 0x0000000000000000 ∷ 0x3ff0000000000000 ∷ [] };
            filt_mean = record { long = 2; written = 0xbfe3c2d79c25a7c6 ∷ 0x0000000000000000 ∷ [] };
            filt_cov = record { long = 4; written = 0x3fd69588b2742d72 ∷ 0x0000000000000000 ∷ 0x0000000000000000 ∷ 0x0000000000000000 ∷ [] };
            kinds = record { long = 2; written = 2 ∷ 1 ∷ [] };
            v = record { long = 2; written = 0xbffc000000000000 ∷ 0x4002f5715365109f ∷ [] };
            f_star = record { long = 2; written = 0x3ff0000000000000 ∷ 0x4006abb98b58d650 ∷ [] };
            f_inf = record { long = 2; written = 0x3ff0000000000000 ∷ 0x0000000000000000 ∷ [] };
            m_star = record { long = 4; written = 0x0000000000000000 ∷ 0x0000000000000000 ∷ 0x3ff5aacaa87380b6 ∷ 0x0000000000000000 ∷ [] };
            m_inf = record { long = 4; written = 0x3ff0000000000000 ∷ 0x0000000000000000 ∷ 0x0000000000000000 ∷ 0x0000000000000000 ∷ [] };
          };
      filter = 0 ∷ 0xc00acbfc68ab2c0c ∷ 1 ∷ 2 ∷ 2 ∷ 0 ∷ 0 ∷ [];
      smooth = 0 ∷ 0xc00acbfc68ab2c0c ∷ 1 ∷ 2 ∷ 2 ∷ 0 ∷ 0 ∷ [];
      sm_mean = record { long = 2; written = 0xbfe3c2d79c25a7c6 ∷ 0x0000000000000000 ∷ [] };
      sm_cov = record { long = 4; written = 0x3fd69588b2742d74 ∷ 0x0000000000000000 ∷ 0x0000000000000000 ∷ 0x0000000000000000 ∷ [] };
    }
    -- gap; usual; clear before any update; NaN inside a run; diffuse start
    ∷ record {
      call =
          record {
            p = 1;
            m = 2;
            r = 1;
            n = 2;
            z = 0x3ff0000000000000 ∷ 0x0000000000000000 ∷ [];
            zs = [];
            repeats = 0;
            h = 0x3ff0000000000000 ∷ [];
            t = 0x6cd0000000000000 ∷ 0xecd0000000000000 ∷ 0x6cd0000000000000 ∷ 0x6cd0000000000000 ∷ [];
            ts = [];
            rr = 0x3ff0000000000000 ∷ 0x0000000000000000 ∷ [];
            q = 0x0000000000000000 ∷ [];
            c = 0x0000000000000000 ∷ 0x0000000000000000 ∷ [];
            d = 0x0000000000000000 ∷ [];
            a1 = 0x0000000000000000 ∷ 0x0000000000000000 ∷ [];
            p_star = 0x0000000000000000 ∷ 0x0000000000000000 ∷ 0x0000000000000000 ∷ 0x0000000000000000 ∷ [];
            flags = 1 ∷ 1 ∷ [];
            y = 0x7ff8000000000000 ∷ 0x0000000000000000 ∷ [];
            pred_mean = record { long = 6; written = 0x0000000000000000 ∷ 0x0000000000000000 ∷ 0x0000000000000000 ∷ 0x0000000000000000 ∷ 0x0000000000000000 ∷ 0x0000000000000000 ∷ [] };
            pred_cov = record { long = 12; written = 0x0000000000000000 ∷ 0x0000000000000000 ∷ 0x0000000000000000 ∷ 0x0000000000000000 ∷ 0x0000000000000000 ∷ 0x0000000000000000 ∷ 0x0000000000000000 ∷ 0x0000000000000000 ∷ 0x0000000000000000 ∷ 0x0000000000000000 ∷ 0x0000000000000000 ∷ 0x0000000000000000 ∷ [] };
            pred_inf = record { long = 12; written = 0x3ff0000000000000 ∷ 0x0000000000000000 ∷ 0x0000000000000000 ∷ 0x3ff0000000000000 ∷ 0x0000000000000000 ∷ 0x0000000000000000 ∷ 0x0000000000000000 ∷ 0x0000000000000000 ∷ 0x0000000000000000 ∷ 0x0000000000000000 ∷ 0x0000000000000000 ∷ 0x0000000000000000 ∷ [] };
            filt_mean = record { long = 4; written = 0x0000000000000000 ∷ 0x0000000000000000 ∷ 0x0000000000000000 ∷ 0x0000000000000000 ∷ [] };
            filt_cov = record { long = 8; written = 0x0000000000000000 ∷ 0x0000000000000000 ∷ 0x0000000000000000 ∷ 0x0000000000000000 ∷ 0x0000000000000000 ∷ 0x0000000000000000 ∷ 0x0000000000000000 ∷ 0x0000000000000000 ∷ [] };
            kinds = record { long = 2; written = 0 ∷ 1 ∷ [] };
            v = record { long = 2; written = 0x0000000000000000 ∷ 0x0000000000000000 ∷ [] };
            f_star = record { long = 2; written = 0x0000000000000000 ∷ 0x3ff0000000000000 ∷ [] };
            f_inf = record { long = 2; written = 0x0000000000000000 ∷ 0x0000000000000000 ∷ [] };
            m_star = record { long = 4; written = 0x0000000000000000 ∷ 0x0000000000000000 ∷ 0x0000000000000000 ∷ 0x0000000000000000 ∷ [] };
            m_inf = record { long = 4; written = 0x0000000000000000 ∷ 0x0000000000000000 ∷ 0x0000000000000000 ∷ 0x0000000000000000 ∷ [] };
          };
      filter = 0 ∷ 0xbfed67f1c864beb4 ∷ 1 ∷ 1 ∷ 1 ∷ 0 ∷ 0 ∷ [];
      smooth = 0 ∷ 0xbfed67f1c864beb4 ∷ 1 ∷ 1 ∷ 1 ∷ 0 ∷ 0 ∷ [];
      sm_mean = record { long = 4; written = 0x0000000000000000 ∷ 0x0000000000000000 ∷ 0x0000000000000000 ∷ 0x0000000000000000 ∷ [] };
      sm_cov = record { long = 8; written = 0x7ff8000000000000 ∷ 0x7ff8000000000000 ∷ 0x7ff8000000000000 ∷ 0x7ff8000000000000 ∷ 0x0000000000000000 ∷ 0x0000000000000000 ∷ 0x0000000000000000 ∷ 0x0000000000000000 ∷ [] };
    }
    -- gap; usual; clear before any update; suspect refused by replay; root built; downdate that returns early; bound NaN by a zero; infinity inside a run; NaN inside a run; known start; covariance report
    ∷ record {
      call =
          record {
            p = 3;
            m = 2;
            r = 1;
            n = 2;
            z = 0x3ff0000000000000 ∷ 0x0000000000000000 ∷ 0x3ff0000000000000 ∷ 0x0000000000000000 ∷ 0x0000000000000000 ∷ 0x3ff0000000000000 ∷ [];
            zs = [];
            repeats = 0;
            h = 0x3db0000000000000 ∷ 0x0000000000000000 ∷ 0x0000000000000000 ∷ 0x0000000000000000 ∷ 0x0000000000000000 ∷ 0x0000000000000000 ∷ 0x0000000000000000 ∷ 0x0000000000000000 ∷ 0x0000000000000000 ∷ [];
            t = 0x3ff0000000000000 ∷ 0x0000000000000000 ∷ 0x0000000000000000 ∷ 0x6690000000000000 ∷ [];
            ts = [];
            rr = 0x3ff0000000000000 ∷ 0x0000000000000000 ∷ [];
            q = 0x0000000000000000 ∷ [];
            c = 0x0000000000000000 ∷ 0x0000000000000000 ∷ [];
            d = 0x0000000000000000 ∷ 0x0000000000000000 ∷ 0x0000000000000000 ∷ [];
            a1 = 0x0000000000000000 ∷ 0x0000000000000000 ∷ [];
            p_star = 0x3ff0000000000000 ∷ 0x0000000000000000 ∷ 0x0000000000000000 ∷ 0x3ff0000000000000 ∷ [];
            flags = 0 ∷ 0 ∷ [];
            y = 0x7ff8000000000000 ∷ 0x7ff8000000000000 ∷ 0x7ff8000000000000 ∷ 0x3fe8000000000000 ∷ 0x0000000000000000 ∷ 0x7ff8000000000000 ∷ [];
            pred_mean = record { long = 6; written = 0x0000000000000000 ∷ 0x0000000000000000 ∷ 0x0000000000000000 ∷ 0x0000000000000000 ∷ 0x3fe7fffffffe8000 ∷ 0x0000000000000000 ∷ [] };
            pred_cov = record { long = 12; written = 0x3ff0000000000000 ∷ 0x0000000000000000 ∷ 0x0000000000000000 ∷ 0x3ff0000000000000 ∷ 0x3ff0000000000000 ∷ 0x0000000000000000 ∷ 0x0000000000000000 ∷ 0x7ff0000000000000 ∷ 0x7ff8000000000000 ∷ 0x7ff8000000000000 ∷ 0x7ff8000000000000 ∷ 0x7ff0000000000000 ∷ [] };
            pred_inf = record { long = 12; written = 0x0000000000000000 ∷ 0x0000000000000000 ∷ 0x0000000000000000 ∷ 0x0000000000000000 ∷ 0x0000000000000000 ∷ 0x0000000000000000 ∷ 0x0000000000000000 ∷ 0x0000000000000000 ∷ 0x0000000000000000 ∷ 0x0000000000000000 ∷ 0x0000000000000000 ∷ 0x0000000000000000 ∷ [] };
            filt_mean = record { long = 4; written = 0x0000000000000000 ∷ 0x0000000000000000 ∷ 0x3fe7fffffffe8000 ∷ 0x0000000000000000 ∷ [] };
            filt_cov = record { long = 8; written = 0x3ff0000000000000 ∷ 0x0000000000000000 ∷ 0x0000000000000000 ∷ 0x3ff0000000000000 ∷ 0x3db0000000000000 ∷ 0x0000000000000000 ∷ 0x0000000000000000 ∷ 0x7ff0000000000000 ∷ [] };
            kinds = record { long = 6; written = 0 ∷ 0 ∷ 0 ∷ 1 ∷ 5 ∷ 0 ∷ [] };
            v = record { long = 6; written = 0x0000000000000000 ∷ 0x0000000000000000 ∷ 0x0000000000000000 ∷ 0x3fe8000000000000 ∷ 0x0000000000000000 ∷ 0x0000000000000000 ∷ [] };
            f_star = record { long = 6; written = 0x0000000000000000 ∷ 0x0000000000000000 ∷ 0x0000000000000000 ∷ 0x3ff0000000010000 ∷ 0x0000000000000000 ∷ 0x0000000000000000 ∷ [] };
            f_inf = record { long = 6; written = 0x0000000000000000 ∷ 0x0000000000000000 ∷ 0x0000000000000000 ∷ 0x0000000000000000 ∷ 0x0000000000000000 ∷ 0x0000000000000000 ∷ [] };
            m_star = record { long = 12; written = 0x0000000000000000 ∷ 0x0000000000000000 ∷ 0x0000000000000000 ∷ 0x0000000000000000 ∷ 0x0000000000000000 ∷ 0x0000000000000000 ∷ 0x3ff0000000000000 ∷ 0x0000000000000000 ∷ 0x0000000000000000 ∷ 0x0000000000000000 ∷ 0x0000000000000000 ∷ 0x0000000000000000 ∷ [] };
            m_inf = record { long = 12; written = 0x0000000000000000 ∷ 0x0000000000000000 ∷ 0x0000000000000000 ∷ 0x0000000000000000 ∷ 0x0000000000000000 ∷ 0x0000000000000000 ∷ 0x0000000000000000 ∷ 0x0000000000000000 ∷ 0x0000000000000000 ∷ 0x0000000000000000 ∷ 0x0000000000000000 ∷ 0x0000000000000000 ∷ [] };
          };
      filter = 0 ∷ 0xbff333f8e432975a ∷ 0 ∷ 2 ∷ 1 ∷ 2 ∷ 0 ∷ [];
      smooth = 0 ∷ 0xbff333f8e432975a ∷ 0 ∷ 2 ∷ 1 ∷ 2 ∷ 0 ∷ [];
      sm_mean = record { long = 4; written = 0x3fe7fffffffe8000 ∷ 0x0000000000000000 ∷ 0x3fe7fffffffe8000 ∷ 0x0000000000000000 ∷ [] };
      sm_cov = record { long = 8; written = 0x3db0000000000000 ∷ 0x0000000000000000 ∷ 0x0000000000000000 ∷ 0x3ff0000000000000 ∷ 0x3db0000000000000 ∷ 0x7ff8000000000000 ∷ 0x7ff8000000000000 ∷ 0x7ff8000000000000 ∷ [] };
    }
    -- usual; skipped by its scale; clear before any update; known start; listed T, of n matrices
    ∷ record {
      call =
          record {
            p = 2;
            m = 3;
            r = 1;
            n = 1;
            z = 0x0000000000000000 ∷ 0x3ff0000000000000 ∷ 0x3ff0000000000000 ∷ 0x3ff0000000000000 ∷ 0x0000000000000000 ∷ 0x0000000000000000 ∷ [];
            zs = [];
            repeats = 0;
            h = 0x3d00000000000000 ∷ 0x0000000000000000 ∷ 0x0000000000000000 ∷ 0x0000000000000000 ∷ [];
            t = [];
            ts = 0x3ff0000000000000 ∷ 0x0000000000000000 ∷ 0x0000000000000000 ∷ 0x0000000000000000 ∷ 0x3ff0000000000000 ∷ 0x0000000000000000 ∷ 0x0000000000000000 ∷ 0x0000000000000000 ∷ 0x3ff0000000000000 ∷ [];
            rr = 0x3ff0000000000000 ∷ 0x0000000000000000 ∷ 0x0000000000000000 ∷ [];
            q = 0x0000000000000000 ∷ [];
            c = 0x0000000000000000 ∷ 0x0000000000000000 ∷ 0x0000000000000000 ∷ [];
            d = 0x0000000000000000 ∷ 0x0000000000000000 ∷ [];
            a1 = 0x0000000000000000 ∷ 0x0000000000000000 ∷ 0x0000000000000000 ∷ [];
            p_star = 0x3ff0000000000000 ∷ 0x0000000000000000 ∷ 0x0000000000000000 ∷ 0x0000000000000000 ∷ 0x3f90000000000000 ∷ 0xbf90000000000000 ∷ 0x0000000000000000 ∷ 0xbf90000000000000 ∷ 0x3f90000000000000 ∷ [];
            flags = 0 ∷ 0 ∷ 0 ∷ [];
            y = 0x0000000000000000 ∷ 0x3ff0000000000000 ∷ [];
            pred_mean = record { long = 6; written = 0x0000000000000000 ∷ 0x0000000000000000 ∷ 0x0000000000000000 ∷ 0x3ff0000000000000 ∷ 0x0000000000000000 ∷ 0x0000000000000000 ∷ [] };
            pred_cov = record { long = 18; written = 0x3ff0000000000000 ∷ 0x0000000000000000 ∷ 0x0000000000000000 ∷ 0x0000000000000000 ∷ 0x3f90000000000000 ∷ 0xbf90000000000000 ∷ 0x0000000000000000 ∷ 0xbf90000000000000 ∷ 0x3f90000000000000 ∷ 0x0000000000000000 ∷ 0x0000000000000000 ∷ 0x0000000000000000 ∷ 0x0000000000000000 ∷ 0x3f90000000000000 ∷ 0xbf90000000000000 ∷ 0x0000000000000000 ∷ 0xbf90000000000000 ∷ 0x3f90000000000000 ∷ [] };
            pred_inf = record { long = 18; written = 0x0000000000000000 ∷ 0x0000000000000000 ∷ 0x0000000000000000 ∷ 0x0000000000000000 ∷ 0x0000000000000000 ∷ 0x0000000000000000 ∷ 0x0000000000000000 ∷ 0x0000000000000000 ∷ 0x0000000000000000 ∷ 0x0000000000000000 ∷ 0x0000000000000000 ∷ 0x0000000000000000 ∷ 0x0000000000000000 ∷ 0x0000000000000000 ∷ 0x0000000000000000 ∷ 0x0000000000000000 ∷ 0x0000000000000000 ∷ 0x0000000000000000 ∷ [] };
            filt_mean = record { long = 3; written = 0x3ff0000000000000 ∷ 0x0000000000000000 ∷ 0x0000000000000000 ∷ [] };
            filt_cov = record { long = 9; written = 0x0000000000000000 ∷ 0x0000000000000000 ∷ 0x0000000000000000 ∷ 0x0000000000000000 ∷ 0x3f90000000000000 ∷ 0xbf90000000000000 ∷ 0x0000000000000000 ∷ 0xbf90000000000000 ∷ 0x3f90000000000000 ∷ [] };
            kinds = record { long = 2; written = 3 ∷ 1 ∷ [] };
            v = record { long = 2; written = 0x0000000000000000 ∷ 0x3ff0000000000000 ∷ [] };
            f_star = record { long = 2; written = 0x0000000000000000 ∷ 0x3ff0000000000000 ∷ [] };
            f_inf = record { long = 2; written = 0x0000000000000000 ∷ 0x0000000000000000 ∷ [] };
            m_star = record { long = 6; written = 0x0000000000000000 ∷ 0x0000000000000000 ∷ 0x0000000000000000 ∷ 0x3ff0000000000000 ∷ 0x0000000000000000 ∷ 0x0000000000000000 ∷ [] };
            m_inf = record { long = 6; written = 0x0000000000000000 ∷ 0x0000000000000000 ∷ 0x0000000000000000 ∷ 0x0000000000000000 ∷ 0x0000000000000000 ∷ 0x0000000000000000 ∷ [] };
          };
      filter = 0 ∷ 0xbff6b3f8e4325f5a ∷ 0 ∷ 2 ∷ 1 ∷ 0 ∷ 0 ∷ [];
      smooth = 0 ∷ 0xbff6b3f8e4325f5a ∷ 0 ∷ 2 ∷ 1 ∷ 0 ∷ 0 ∷ [];
      sm_mean = record { long = 3; written = 0x3ff0000000000000 ∷ 0x0000000000000000 ∷ 0x0000000000000000 ∷ [] };
      sm_cov = record { long = 9; written = 0x0000000000000000 ∷ 0x0000000000000000 ∷ 0x0000000000000000 ∷ 0x0000000000000000 ∷ 0x3f90000000000000 ∷ 0xbf90000000000000 ∷ 0x0000000000000000 ∷ 0xbf90000000000000 ∷ 0x3f90000000000000 ∷ [] };
    }
    -- gap; d_diffuse over 1; infinity inside a run; NaN inside a run; diffuse start; all readings gaps, answered; covariance report
    ∷ record {
      call =
          record {
            p = 1;
            m = 2;
            r = 1;
            n = 3;
            z = 0x3ff0000000000000 ∷ 0x0000000000000000 ∷ [];
            zs = [];
            repeats = 0;
            h = 0x3ff0000000000000 ∷ [];
            t = 0x73e0000000000000 ∷ 0x3ff0000000000000 ∷ 0x3ff0000000000000 ∷ 0x0000000000000000 ∷ [];
            ts = [];
            rr = 0x3ff0000000000000 ∷ 0x0000000000000000 ∷ [];
            q = 0x0000000000000000 ∷ [];
            c = 0x0000000000000000 ∷ 0x0000000000000000 ∷ [];
            d = 0x0000000000000000 ∷ [];
            a1 = 0x0000000000000000 ∷ 0x0000000000000000 ∷ [];
            p_star = 0x0000000000000000 ∷ 0x0000000000000000 ∷ 0x0000000000000000 ∷ 0x0000000000000000 ∷ [];
            flags = 1 ∷ 1 ∷ [];
            y = 0x7ff8000000000000 ∷ 0x7ff8000000000000 ∷ 0x7ff8000000000000 ∷ [];
            pred_mean = record { long = 8; written = 0x0000000000000000 ∷ 0x0000000000000000 ∷ 0x0000000000000000 ∷ 0x0000000000000000 ∷ 0x0000000000000000 ∷ 0x0000000000000000 ∷ 0x0000000000000000 ∷ 0x0000000000000000 ∷ [] };
            pred_cov = record { long = 16; written = 0x0000000000000000 ∷ 0x0000000000000000 ∷ 0x0000000000000000 ∷ 0x0000000000000000 ∷ 0x0000000000000000 ∷ 0x0000000000000000 ∷ 0x0000000000000000 ∷ 0x0000000000000000 ∷ 0x0000000000000000 ∷ 0x0000000000000000 ∷ 0x0000000000000000 ∷ 0x0000000000000000 ∷ 0x0000000000000000 ∷ 0x0000000000000000 ∷ 0x0000000000000000 ∷ 0x0000000000000000 ∷ [] };
            pred_inf = record { long = 16; written = 0x3ff0000000000000 ∷ 0x0000000000000000 ∷ 0x0000000000000000 ∷ 0x3ff0000000000000 ∷ 0x7ff0000000000000 ∷ 0x73e0000000000000 ∷ 0x73e0000000000000 ∷ 0x3ff0000000000000 ∷ 0x0000000000000000 ∷ 0x0000000000000000 ∷ 0x0000000000000000 ∷ 0x0000000000000000 ∷ 0x0000000000000000 ∷ 0x0000000000000000 ∷ 0x0000000000000000 ∷ 0x0000000000000000 ∷ [] };
            filt_mean = record { long = 6; written = 0x0000000000000000 ∷ 0x0000000000000000 ∷ 0x0000000000000000 ∷ 0x0000000000000000 ∷ 0x0000000000000000 ∷ 0x0000000000000000 ∷ [] };
            filt_cov = record { long = 12; written = 0x0000000000000000 ∷ 0x0000000000000000 ∷ 0x0000000000000000 ∷ 0x0000000000000000 ∷ 0x0000000000000000 ∷ 0x0000000000000000 ∷ 0x0000000000000000 ∷ 0x0000000000000000 ∷ 0x0000000000000000 ∷ 0x0000000000000000 ∷ 0x0000000000000000 ∷ 0x0000000000000000 ∷ [] };
            kinds = record { long = 3; written = 0 ∷ 0 ∷ 0 ∷ [] };
            v = record { long = 3; written = 0x0000000000000000 ∷ 0x0000000000000000 ∷ 0x0000000000000000 ∷ [] };
            f_star = record { long = 3; written = 0x0000000000000000 ∷ 0x0000000000000000 ∷ 0x0000000000000000 ∷ [] };
            f_inf = record { long = 3; written = 0x0000000000000000 ∷ 0x0000000000000000 ∷ 0x0000000000000000 ∷ [] };
            m_star = record { long = 6; written = 0x0000000000000000 ∷ 0x0000000000000000 ∷ 0x0000000000000000 ∷ 0x0000000000000000 ∷ 0x0000000000000000 ∷ 0x0000000000000000 ∷ [] };
            m_inf = record { long = 6; written = 0x0000000000000000 ∷ 0x0000000000000000 ∷ 0x0000000000000000 ∷ 0x0000000000000000 ∷ 0x0000000000000000 ∷ 0x0000000000000000 ∷ [] };
          };
      filter = 0 ∷ 0x0000000000000000 ∷ 2 ∷ 0 ∷ 0 ∷ 2 ∷ 0 ∷ [];
      smooth = 0 ∷ 0x0000000000000000 ∷ 2 ∷ 0 ∷ 0 ∷ 2 ∷ 0 ∷ [];
      sm_mean = record { long = 6; written = 0x0000000000000000 ∷ 0x0000000000000000 ∷ 0x0000000000000000 ∷ 0x0000000000000000 ∷ 0x0000000000000000 ∷ 0x0000000000000000 ∷ [] };
      sm_cov = record { long = 12; written = 0x0000000000000000 ∷ 0x0000000000000000 ∷ 0x0000000000000000 ∷ 0x0000000000000000 ∷ 0x7ff8000000000000 ∷ 0x7ff8000000000000 ∷ 0x7ff8000000000000 ∷ 0x0000000000000000 ∷ 0x0000000000000000 ∷ 0x0000000000000000 ∷ 0x0000000000000000 ∷ 0x0000000000000000 ∷ [] };
    }
    ∷ []

pub agrees : T (hold (agreed cases))
unfolding opened
agrees = tt
