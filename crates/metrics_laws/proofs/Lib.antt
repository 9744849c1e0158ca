mod ChunkSizes
