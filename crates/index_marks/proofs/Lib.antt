mod NewIndices
