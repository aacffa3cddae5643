mod NoiseLemmas
